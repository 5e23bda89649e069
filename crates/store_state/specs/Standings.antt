-- A store as contracts see it, and the databases that an image of its disk may stand for.
use Rattle.std.specs.Prelude.{◌≡◌, ℕ, ◌+◌, ◌≤◌, ◌⊎◌, nat_eq, if◌then◌else◌, List, [], ◌∷◌, ◌++◌, length, Contains, Option, Some, None, IfSome, IsTrue}
use Rattle.afl_outside.specs.Disk.{DiskState, Moment}
use Rattle.page_chain.specs.declared.slots.layout.sides.Format.{Format}
use Rattle.page_chain.specs.declared.slots.layout.sides.Format.TheVariants.{One, Two}
use Rattle.page_chain.specs.declared.slots.slots.slots.Slots.{Slots}
use Rattle.page_file.specs.FilesOpened.{OpenFile}
use Rattle.plan_changes.specs.declared.change.Change.{Change}
use Rattle.plan_changes.specs.Databases.{Database, after, fault_of_change, names_of}
use Rattle.plan_changes.specs.Typed.{IsTypedFor}
use Rattle.file_meaning.specs.Opening.{sequence_of}
use Rattle.file_meaning.specs.Slots.{Slots as FoundSlots}
use Rattle.file_meaning.specs.Standing.{Stands}
use Rattle.chunk_map.specs.declared.directory.Directory.{Directory}
use Rattle.event_core.specs.declared.entry.Entry.{Entry}
use Rattle.event_core.specs.declared.entry.Entry.TheVariants.{Pin, Unpin, Commit, Reap}
use Rattle.event_core.specs.declared.state.Core.{Core}
use Rattle.event_core.specs.Bases.{Base, commits}
use Rattle.event_core.specs.Cells.{at}
use Rattle.event_core.specs.History.{History}
use Rattle.store_ledger.specs.declared.note.Note.{Note}
use Rattle.store_ledger.specs.Ledger.{LedgerState, attempt, history, with_entries as more_entries, with_notes as more_notes}
use Rattle.store_versions.specs.Versions.{Directories, MadeVersion, versions_at}

-- A STORE: its disk; the file as it was opened, and the versions that it had; its ledger; the change whose slot may stand open, if one may;
-- and of each commit, in order, the disk's moment at which it was acknowledged and the directory of the version that it made
pub record Standing (D : Type 0) : Type 0 where
  pub disk : D
  pub opened : OpenFile D
  pub first : List MadeVersion
  pub ledger : LedgerState
  pub doubt : Option Change
  pub acked : List ℕ
  pub made : List Directory

-- the store with more entries, or with more notes, and all else as it is
abbrev pub with_entries : {D : Type 0} → List Entry → Standing D → Standing D
with_entries more s = record s { ledger = more_entries more s.ledger }

abbrev pub with_notes : {D : Type 0} → List Note → Standing D → Standing D
with_notes more s = record s { ledger = more_notes more s.ledger }

-- ---- versions

-- the places of the commits among entries, from one place on
abbrev pub commit_places : ℕ → List Entry → List ℕ
commit_places place [] = []
commit_places place (Pin session ∷ entries) = commit_places (place + 1) entries
commit_places place (Unpin session ∷ entries) = commit_places (place + 1) entries
commit_places place (Commit session change used ∷ entries) = place ∷ commit_places (place + 1) entries
commit_places place (Reap ∷ entries) = commit_places (place + 1) entries

-- the directory that the commit at a place has made its version with
abbrev pub made_at : List ℕ → List Directory → ℕ → Directory
made_at [] directories place = record { entries = [] }
made_at (p ∷ places) [] place = record { entries = [] }
made_at (p ∷ places) (directory ∷ directories) place = if nat_eq place p then directory else made_at places directories place

-- the directories that all versions were made with
abbrev pub given_of : {D : Type 0} → Standing D → Directories
given_of s = record { first = s.first; made = made_at (commit_places 0 s.ledger.entries) s.made }

-- the versions that could be named after a beginning of the history, each with its directory
abbrev pub versions_after : {D : Type 0} → Standing D → History → List MadeVersion
versions_after s before = versions_at s.ledger.base (given_of s) before

-- ---- the base

-- how many records the log of a file has: none where the format has no log
abbrev pub records_in : Format → ℕ → Option ℕ
records_in One count = None
records_in Two count = Some count

-- the current root and its log
abbrev pub current_slots : Slots → FoundSlots
current_slots slots = record { current = slots.current; records = slots.records }

abbrev pub base_from : Core → Slots → Base
base_from core slots = record { core = core; sequence = sequence_of (current_slots slots); records = records_in slots.current.format (length slots.records) }

-- what the file was as it was opened
abbrev pub base_of : {D : Type 0} → Standing D → Base
base_of s = base_from s.ledger.base s.opened.slots

-- the premise of all that is said of cells: an honest disk told, as it was opened, the bytes of a file that stands for this database
pub record BeganAs (opened : DiskState) (db : Database) : Type 0 where
  pub honest : IsTrue opened.honest
  pub file : List ℕ
  pub tells : opened.seen ≡ Some file
  pub stands : Stands file db

-- the database after all commits
abbrev pub database_at : {D : Type 0} → Database → Standing D → Database
database_at db s = at db (history s.ledger)

-- ---- images

-- what an image may stand for while the slot of a change may stand open: the database, or the database after the change
abbrev pub StandsFor : Database → Option Change → List ℕ → Type 0
StandsFor db None image = Stands image db
StandsFor db (Some change) image = Stands image db ⊎ Stands image (after db change)

-- a change that may be made of a database
pub record IsSound (db : Database) (change : Change) : Type 0 where
  pub typed : IsTypedFor (names_of db) change
  pub whole : fault_of_change db change ≡ None

-- a session tried to commit this change when the history had these commits: its note comes behind so many entries that no commit is among
-- those since
pub record WasTriedBy (session : ℕ) (notes : List Note) (before : History) (change : Change) : Type 0 where
  pub since : History
  pub start : History
  pub part : before ≡ since ++ start
  pub noted : Contains notes (record { session = session; kind = attempt change; after = length start })
  pub still : commits since ≡ 0

abbrev pub WasTried : List Note → History → Change → Type 0
WasTried notes before change = (session : ℕ) × WasTriedBy session notes before change

-- an attempt of a change: it was tried, and it may be made of the database
pub record IsAttempt (db : Database) (notes : List Note) (before : History) (change : Change) : Type 0 where
  pub sound : IsSound (at db before) change
  pub tried : WasTried notes before change

-- AN IMAGE OF ANY MOMENT stands for the database after some beginning of the history, which has so many entries at least, or for that
-- after one more change, which a session tried to commit there
pub record StoodFor (db : Database) (notes : List Note) (least : ℕ) (h : History) (image : List ℕ) : Type 0 where
  pub later : History
  pub before : History
  pub part : h ≡ later ++ before
  pub enough : least ≤ length before
  pub more : Option Change
  pub tried : IfSome more (IsAttempt db notes before)
  pub stands : StandsFor (at db before) more image

-- so does each image that a crash might have left since some moment
pub record HaveStood (now : Moment) (db : Database) (notes : List Note) (h : History) (least since : ℕ) : Type 0 where
  pub gone : since ≤ now.state.moment
  pub made : least ≤ length h
  pub images : (image : List ℕ) → now.left_since since image → StoodFor db notes least h image
