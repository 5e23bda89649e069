-- How many pages a commit takes over a store, and what is laid in them.
use Rattle.std.specs.Prelude.{◌≡◌, ℕ, ◌+◌, List, [], ◌∷◌, ◌++◌, length, Option, Some, None}
use Rattle.array_geom.specs.declared.chunk.Changed.{Changed}
use Rattle.chunk_map.specs.declared.directory.Directory.{Directory}
use Rattle.page_chain.specs.declared.slots.slots.slots.Target.{Target}
use Rattle.page_chain.specs.declared.slots.slots.slots.Target.TheVariants.{Root, Record}
use Rattle.plan_changes.specs.declared.change.Change.{Change}
use Rattle.plan_changes.specs.Changes.{name_of, newest_of}
use Rattle.version_catalog.specs.declared.rules.catalog.Catalog.{Catalog}
use Rattle.event_core.specs.Bases.{sequence_at}
use Rattle.event_core.specs.History.{catalogue_at, names_at}
use Rattle.store_state.specs.Ledger.{history}
use Rattle.store_versions.specs.Versions.{directory_of}
use Rattle.store_state.specs.Laid.{Laid}
use Rattle.store_state.specs.Written.{Written}
use Rattle.store_state.specs.Commits.{record_needs, base_needs, record_laid, base_laid}
use Rattle.store_state.specs.Versions.{draft_of}
use Rattle.store_state.specs.Standings.{Standing, base_of, versions_after}
use Rattle.store_state.specs.Inner.Keeping.{Keeping}
use Rattle.prepared_commits.specs.declared.commits.prepared.NewBase.{NewBase}

-- the sequence number of the next commit
abbrev pub next_sequence : {D : Type 0} → Standing D → ℕ
next_sequence s = sequence_at (base_of s) (history s.ledger) + 1

-- ---- the newest version

abbrev pub or_empty : Option Directory → Directory
or_empty None = record { entries = [] }
or_empty (Some directory) = directory

-- the directory of the newest version of the array that a change is about, one without entries where there is none
abbrev pub newest_now : {D : Type 0} → Standing D → Change → Directory
newest_now s change = or_empty (directory_of (name_of change) (newest_of (names_at s.ledger.base (history s.ledger)).arrays (name_of change))
    (versions_after s (history s.ledger)))

-- what is written of the chunks that come with a change
abbrev pub written_now : {D : Type 0} → Standing D → Option Changed → Option Written
written_now s changed = draft_of (next_sequence s) changed

-- ---- how many pages it takes

abbrev pub needs_by : Target → Catalog → Directory → Change → Option Written → ℕ
needs_by Record catalog newest change written = record_needs catalog newest change written
needs_by Root catalog newest change written = base_needs catalog newest change written + 1

-- a record, where the log has room for one; else a new base with its log page
abbrev pub needs : {D : Type 0} → Standing D → Keeping → Change → Option Changed → ℕ
needs s k change changed = needs_by k.slots.target k.catalog (newest_now s change) change (written_now s changed)

-- ---- what is laid

-- a record of a commit in so many pages as it needs
pub record IsRecord (aim : Target) (catalog : Catalog) (catalogue : List ℕ) (newest : Directory) (change : Change) (written : Option Written)
    (pages : List ℕ) (laid : Laid) : Type 0 where
  pub target : aim ≡ Record
  pub enough : length pages ≡ record_needs catalog newest change written
  pub is : laid ≡ record_laid catalog catalogue newest change written pages

-- a new base of it, with its log page
pub record IsBase (aim : Target) (number : ℕ) (base : NewBase) (catalog : Catalog) (newest : Directory) (change : Change)
    (written : Option Written) (pages : List ℕ) (laid : Laid) : Type 0 where
  pub target : aim ≡ Root
  pub sequence : base.sequence ≡ number
  pub enough : length pages ≡ base_needs catalog newest change written
  pub is : laid ≡ base_laid catalog newest change written pages base.log

abbrev pub IsLaidBy : {D : Type 0} → Standing D → Keeping → Change → Option Changed → List ℕ → Option NewBase → Laid → Type 0
IsLaidBy s k change changed pages None laid = IsRecord k.slots.target k.catalog (catalogue_at s.ledger.base (history s.ledger)) (newest_now s change)
    change (written_now s changed) pages laid
IsLaidBy s k change changed pages (Some base) laid = IsBase k.slots.target (next_sequence s) base k.catalog (newest_now s change) change
    (written_now s changed) pages laid

-- all pages of it
abbrev pub all_pages : List ℕ → Option NewBase → List ℕ
all_pages pages None = pages
all_pages pages (Some base) = pages ++ base.log ∷ []
