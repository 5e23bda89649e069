-- What a pin sees stays, reaps are few, and stores open again.
use Rattle.std.specs.Prelude.{◌≡◌, ℕ, ◌+◌, ◌*◌, ◌≤◌, ◌⊎◌, List, [], ◌∷◌, ◌++◌, length, Option, None, Some, IfSome, IsTrue}
use Rattle.arrayvec.specs.ArrayVec.{ArrayVec}
use Rattle.afl_outside.specs.Disk.{DiskState}
use Rattle.array_geom.specs.declared.chunk.Chunk.{Chunk}
use Rattle.file_meaning.specs.Source.{IsChunkIn, IsStored}
use Rattle.logical_plan.specs.declared.parts.Leaf.{Leaf}
use Rattle.plan_changes.specs.declared.change.Change.{Change}
use Rattle.plan_changes.specs.Databases.{Database, after, rows_of}
use Rattle.file_meaning.specs.Opening.{IsWrongAt}
use Rattle.event_core.specs.declared.entry.Entry.{Entry}
use Rattle.event_core.specs.declared.entry.Entry.TheVariants.{Pin, Unpin, Commit, Reap}
use Rattle.event_core.specs.Cells.{at}
use Rattle.event_core.specs.History.{History}
use Rattle.event_core.specs.Legal.{IsOrdered}
use Rattle.store_ledger.specs.declared.note.Note.{Note}
use Rattle.store_ledger.specs.declared.pinned.Pinned.{Pinned}
use Rattle.store_ledger.specs.Ledger.{LedgerState, IsLedger, IsOpenPin, history, reaps}
use Rattle.store_state.specs.Calls.{database_with}
use Rattle.store_state.specs.Standings.{Standing, BeganAs, IsAttempt, StoodFor}

-- WHAT A PIN SEES STAYS, cells: two chunks of one number that are read under it, however many entries come in between, are the same
abbrev pub PinnedCellsStay : Type 0 → Type 0
PinnedCellsStay D = (db : Database) (s t : Standing D) (later : List Entry) (pinned : Pinned) (leaf : Leaf) (number : ArrayVec ℕ) (first second : Chunk)
    → t.ledger.entries ≡ s.ledger.entries ++ later → IsOpenPin s.ledger pinned
    → IsStored leaf.schema number first → IsChunkIn (rows_of (database_with db s pinned.place)) leaf first
    → IsStored leaf.schema number second → IsChunkIn (rows_of (database_with db t pinned.place)) leaf second → first ≡ second

-- how many pins a history has
abbrev pub pins : History → ℕ
pins [] = 0
pins (Pin session ∷ before) = pins before + 1
pins (Unpin session ∷ before) = pins before
pins (Commit session change used ∷ before) = pins before
pins (Reap ∷ before) = pins before

-- REAPS ARE FEW: at most three a pin
abbrev pub ReapsAreFew : Type 0
ReapsAreFew = (ledger : LedgerState) → IsLedger ledger → IsOrdered ledger.base (history ledger) → reaps (history ledger) ≤ 3 * pins (history ledger)

-- a database, or that after one change more, if there is one
abbrev pub IsNowOf : Database → Option Change → Database → Type 0
IsNowOf db None now = now ≡ db
IsNowOf db (Some change) now = (now ≡ db) ⊎ (now ≡ after db change)

-- An image opens, and a store that is opened over it, on an honest disk that tells it, begins as the database after a beginning of a history,
-- or as that after one change more, which a session had tried to commit there
pub record OpensAgain (db : Database) (notes : List Note) (least : ℕ) (h : History) (image : List ℕ) : Type 0 where
  pub later : History
  pub before : History
  pub part : h ≡ later ++ before
  pub enough : least ≤ length before
  pub more : Option Change
  pub tried : IfSome more (IsAttempt db notes before)
  pub now : Database
  pub is : IsNowOf (at db before) more now
  pub right : (page : ℕ) → ¬ IsWrongAt page image
  pub begins : (opened : DiskState) → IsTrue opened.honest → opened.seen ≡ Some image → BeganAs opened now

-- STORES OPEN AGAIN: so does each image that has stood for a database
abbrev pub StoresOpenAgain : Type 0
StoresOpenAgain = (db : Database) (notes : List Note) (least : ℕ) (h : History) (image : List ℕ) → StoodFor db notes least h image
    → OpensAgain db notes least h image
