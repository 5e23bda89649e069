-- All that a file keeps, found in two parts: its base, and what follows it.
use Rattle.std.specs.Prelude.{◌≡◌, ℕ, List, [], ◌∷◌, ◌++◌, Result, Ok, Err}
use Rattle.file_items.specs.Items.{◌>>=◌}
use Rattle.page_chain.specs.declared.slots.layout.roots.Root.{Root}
use Rattle.page_chain.specs.declared.fault.OpenCause.{OpenCause}
use Rattle.page_chain.specs.declared.fault.OpenCause.TheVariants.{Disk, NotDatabase, Memory}
use Rattle.file_meaning.specs.Opening.{Logged, Rules, logged_in, rows_in, sequence_of}
use Rattle.file_meaning.specs.Slots.{Slots}
use Rattle.file_meaning.specs.declared.meaning.found.Found.{Found}
use Rattle.file_reading.specs.Inner.Log.{base_in}

-- the base alone
abbrev pub base_found_in : List ℕ → Root → Result Found ℕ
base_found_in file root = base_in file root >>= λ base. Ok (record { chain = base.0; logged = []; catalog = base.1; directories = [] })

-- what directories are tested by
abbrev pub rules_in : Slots → Rules
rules_in slots = record { first = slots.current.root.first; sequence = sequence_of slots }

-- the log behind a base
abbrev pub log_behind : List ℕ → Slots → Found → Result Logged ℕ
log_behind file slots base = logged_in file slots.current.root.log (base.chain ++ slots.current.root.log ∷ []) base.catalog slots.records

-- the log and the directories behind a base
abbrev pub found_behind : List ℕ → Slots → Found → Result Found ℕ
found_behind file slots base = do
  logged ← log_behind file slots base
  directories ← rows_in file (rules_in slots) logged.taken logged.catalog.arrays
  Ok (record { chain = base.chain; logged = logged.pages; catalog = logged.catalog; directories = directories })

-- the log's records were read into what is found, and these pages are taken then
abbrev pub IsLogFound : Result (List ℕ) OpenCause → Found → Result Logged ℕ → Type 0
IsLogFound (Ok taken) now step = step ≡ Ok (record { pages = now.logged; catalog = now.catalog; taken = taken })
IsLogFound (Err Disk) now step = Unit {0}
IsLogFound (Err (NotDatabase page)) now step = step ≡ Err page
IsLogFound (Err Memory) now step = Unit {0}
