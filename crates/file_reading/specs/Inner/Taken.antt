-- Which pages a set of pages takes.
use Rattle.std.specs.Prelude.{◌≡◌, ℕ, ◌<◌, ◌/◌, ◌^◌, min, Bool, true, false, List, length, slice_index_or, Result, Ok, Err, IsTrue}
use Rattle.page_chain.specs.Pages.{page_size}
use Rattle.page_chain.specs.Chains.{names_page}
use Rattle.page_chain.specs.declared.fault.OpenCause.{OpenCause}
use Rattle.page_chain.specs.declared.fault.OpenCause.TheVariants.{Disk, NotDatabase, Memory}
use Rattle.version_reaper.specs.PageSets.{holds}
use Rattle.file_reading.specs.Reading.{is_beside}

-- the set can have the pages of the file that a list can name, and has those of them that are taken
pub record IsTaken (file : List ℕ) (set : List Bool) (taken : List ℕ) : Type 0 where
  pub limit : length set ≡ min (length file / 4096) (2 ^ 32)
  pub pages : (p : ℕ) → p < length set → slice_index_or set p false ≡ holds taken p

-- the pages that are taken then, or the page at which the file is wrong
abbrev pub IsClaimed : List ℕ → Bool → List Bool → Result (List ℕ) ℕ → ℕ → Type 0
IsClaimed file true set step named = (now : List ℕ) × (step ≡ Ok now) × IsTaken file set now
IsClaimed file false set step named = step ≡ Err named

-- a step's value with what is taken then, or the page at which the file is wrong, unless the disk fails or memory runs out
abbrev pub Takes : {X Y : Type 0} → List ℕ → (X → List ℕ → Y) → Result X OpenCause → List Bool → Result Y ℕ → Type 0
Takes file together (Ok x) set step = (now : List ℕ) × (step ≡ Ok (together x now)) × IsTaken file set now
Takes file together (Err Disk) set step = Unit {0}
Takes file together (Err (NotDatabase page)) set step = step ≡ Err page
Takes file together (Err Memory) set step = Unit {0}

-- all of some pages are among those that are taken
abbrev pub HaveAll : List ℕ → List ℕ → Type 0
HaveAll taken pages = (page : ℕ) → IsTrue (holds pages page) → IsTrue (holds taken page)

-- a page of the file that isn't taken is beside some others
abbrev pub LeaveBeside : List ℕ → List ℕ → List ℕ → Type 0
LeaveBeside file taken others = (page : ℕ) → names_page page_size file taken page ≡ true → IsTrue (is_beside others page)

-- so it is where the set doesn't have it
abbrev pub LeavesBeside : List ℕ → List Bool → List ℕ → Type 0
LeavesBeside file set others = (taken : List ℕ) × IsTaken file set taken × LeaveBeside file taken others
