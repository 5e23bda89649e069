-- What a store holds over a commit, on an honest disk.
use Rattle.std.specs.Prelude.{ℕ, List}
use Rattle.afl_outside.specs.Disk.{LeavesOnly, Moment}
use Rattle.page_chain.specs.declared.slots.slots.slots.Slots.{Slots}
use Rattle.plan_changes.specs.Databases.{Database, after}
use Rattle.event_core.specs.Cells.{at}
use Rattle.file_meaning.specs.Standing.{Stands}
use Rattle.page_file.specs.declared.commits.stopped.Stopped.{Stopped}
use Rattle.store_ledger.specs.Ledger.{LedgerState, history}
use Rattle.prepared_commits.specs.Calls.{NotesFault}
use Rattle.prepared_commits.specs.Cells.{HoldsCells}
use Rattle.prepared_commits.specs.Payloads.{HoldsPayloads}
use Rattle.prepared_commits.specs.Standings.{Standing, BeganAs, commit_places, given_of}
use Rattle.prepared_commits.specs.Keeping.{Keeping}
use Rattle.prepared_commits.specs.declared.commits.prepared.Prepared.{Prepared}
use Rattle.store_sealing.specs.StepsLaws.{IsReady}
use Rattle.store_sealing.specs.Steps.{sealed, sealed_keeping, sealed_ledger, stopped, stopped_keeping}
use Rattle.store_sealing.specs.Moves.{Writes, IsDone, StopsAt, MayLeave}

-- a store that holds its database's cells, a commit that is prepared for it, and a disk on which it was written
pub record IsWritten {D : Type 0} (moment : D → Moment) (s : Standing D) (k : Keeping) (p : Prepared) (db : Database) (later : Slots) (disk : D) : Type 0 where
  pub ready : IsReady moment s k p
  pub cells : HoldsCells moment s k db (history s.ledger) (given_of s) (commit_places 0 s.ledger.entries)
  pub began : BeganAs (moment s.opened.disk).state db
  pub writes : Writes k.slots later p (moment s.disk) (moment disk)

-- once it is sealed. Since this moment there is no other
abbrev pub SealedCellsAreHeld : {D : Type 0} → (D → Moment) → Type 0
SealedCellsAreHeld {D} moment = (s : Standing D) (k : Keeping) (p : Prepared) (db : Database) (later : Slots) (ledger : LedgerState)
    (disk : D) → IsWritten moment s k p db later disk → IsDone p.base k.slots later p.blobs p.chain (moment s.disk) (moment disk)
    → ((image : List ℕ) → (moment disk).left_since (moment disk).state.moment image → (moment disk).may_leave image)
    → NotesFault (moment s.disk).state (moment disk).state p.session (sealed_ledger s p) ledger
    → HoldsCells moment (sealed moment s p ledger disk) (sealed_keeping s k p) db (history ledger) (given_of (sealed moment s p ledger disk))
    (commit_places 0 ledger.entries)

-- where it stopped
abbrev pub StoppedCellsAreHeld : {D : Type 0} → (D → Moment) → Type 0
StoppedCellsAreHeld {D} moment = (s : Standing D) (k : Keeping) (p : Prepared) (db : Database) (later : Slots) (stage : Stopped)
    (ledger : LedgerState) (disk : D)
    → IsWritten moment s k p db later disk → StopsAt p.base stage k.slots later p.blobs p.chain (moment s.disk) (moment disk)
    → NotesFault (moment s.disk).state (moment disk).state p.session s.ledger ledger
    → HoldsCells moment (stopped stage s p ledger disk) (stopped_keeping stage k p later) db (history ledger) (given_of (stopped stage s p ledger disk))
    (commit_places 0 ledger.entries)

-- each image of its moments
abbrev pub CommitsPassBy : {D : Type 0} → (D → Moment) → Type 0
CommitsPassBy {D} moment = (s : Standing D) (k : Keeping) (p : Prepared) (db : Database) (later : Slots) (disk : D)
    → IsWritten moment s k p db later disk
    → LeavesOnly (moment s.disk).state.moment (moment disk).state.moment (moment s.disk).left_since (moment disk).left_since
    (MayLeave db s k p (moment s.disk).may_leave)

-- and each image once it is sealed
abbrev pub SealedImagesStand : {D : Type 0} → (D → Moment) → Type 0
SealedImagesStand {D} moment = (s : Standing D) (k : Keeping) (p : Prepared) (db : Database) (later : Slots) (disk : D)
    → IsWritten moment s k p db later disk → IsDone p.base k.slots later p.blobs p.chain (moment s.disk) (moment disk)
    → (image : List ℕ) → (moment disk).may_leave image → Stands image (after (at db (history s.ledger)) p.commit.change)

-- ---- whatever its file stands for

-- a store that has each payload, on an honest disk that told these bytes, a commit that is prepared for it, and a disk on which it was written
pub record IsWrittenOver {D : Type 0} (moment : D → Moment) (s : Standing D) (k : Keeping) (p : Prepared) (file : List ℕ) (later : Slots)
    (disk : D) : Type 0 where
  pub ready : IsReady moment s k p
  pub payloads : HoldsPayloads moment s k file (history s.ledger) (given_of s)
  pub writes : Writes k.slots later p (moment s.disk) (moment disk)

-- it has each payload once it is sealed
abbrev pub SealedPayloadsAreHeld : {D : Type 0} → (D → Moment) → Type 0
SealedPayloadsAreHeld {D} moment = (s : Standing D) (k : Keeping) (p : Prepared) (file : List ℕ) (later : Slots) (ledger : LedgerState)
    (disk : D) → IsWrittenOver moment s k p file later disk → IsDone p.base k.slots later p.blobs p.chain (moment s.disk) (moment disk)
    → NotesFault (moment s.disk).state (moment disk).state p.session (sealed_ledger s p) ledger
    → HoldsPayloads moment (sealed moment s p ledger disk) (sealed_keeping s k p) file (history ledger) (given_of (sealed moment s p ledger disk))

-- and where it stopped
abbrev pub StoppedPayloadsAreHeld : {D : Type 0} → (D → Moment) → Type 0
StoppedPayloadsAreHeld {D} moment = (s : Standing D) (k : Keeping) (p : Prepared) (file : List ℕ) (later : Slots) (stage : Stopped)
    (ledger : LedgerState) (disk : D)
    → IsWrittenOver moment s k p file later disk → StopsAt p.base stage k.slots later p.blobs p.chain (moment s.disk) (moment disk)
    → NotesFault (moment s.disk).state (moment disk).state p.session s.ledger ledger
    → HoldsPayloads moment (stopped stage s p ledger disk) (stopped_keeping stage k p later) file (history ledger) (given_of (stopped stage s p ledger disk))
