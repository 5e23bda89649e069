-- What a store keeps over a commit, on whichever disk.
use Rattle.std.specs.Prelude.{List, ℕ, Option}
use Rattle.afl_outside.specs.Disk.{DiskGoesOn, Moment}
use Rattle.array_geom.specs.declared.chunk.Changed.{Changed}
use Rattle.page_chain.specs.declared.slots.slots.slots.Slots.{Slots}
use Rattle.page_file.specs.declared.commits.stopped.Stopped.{Stopped}
use Rattle.store_state.specs.Laid.{Laid}
use Rattle.store_ledger.specs.Ledger.{LedgerState, history}
use Rattle.prepared_commits.specs.Calls.{NotesFault}
use Rattle.prepared_commits.specs.Standings.{Standing, given_of}
use Rattle.prepared_commits.specs.Kept.{IsKept}
use Rattle.prepared_commits.specs.Keeping.{Keeping}
use Rattle.prepared_commits.specs.declared.commits.prepared.Prepared.{Prepared}
use Rattle.prepared_commits.specs.Prepared.{IsAsked, IsLaid, MayCome}
use Rattle.store_sealing.specs.Steps.{sealed, sealed_keeping, sealed_ledger, stopped, stopped_keeping}

-- a store that keeps what it keeps, and a commit that is prepared for it
pub record IsReady {D : Type 0} (moment : D → Moment) (s : Standing D) (k : Keeping) (p : Prepared) : Type 0 where
  pub kept : IsKept moment s k (history s.ledger) (given_of s)
  pub changed : Option Changed
  pub asked : IsAsked moment s p.commit.change changed
  pub pages : List ℕ
  pub laid : Laid
  pub is_laid : IsLaid s k changed pages laid p
  pub may_come : MayCome moment s k p

-- once it is sealed
abbrev pub SealedStoresAreKept : {D : Type 0} → (D → Moment) → Type 0
SealedStoresAreKept {D} moment = (s : Standing D) (k : Keeping) (p : Prepared) (ledger : LedgerState) (disk : D)
    → IsReady moment s k p → DiskGoesOn (moment s.disk).state (moment disk).state
    → NotesFault (moment s.disk).state (moment disk).state p.session (sealed_ledger s p) ledger
    → IsKept moment (sealed moment s p ledger disk) (sealed_keeping s k p) (history ledger) (given_of (sealed moment s p ledger disk))

-- where it stopped
abbrev pub StoppedStoresAreKept : {D : Type 0} → (D → Moment) → Type 0
StoppedStoresAreKept {D} moment = (s : Standing D) (k : Keeping) (p : Prepared) (stage : Stopped) (later : Slots)
    (ledger : LedgerState) (disk : D)
    → IsReady moment s k p → DiskGoesOn (moment s.disk).state (moment disk).state
    → NotesFault (moment s.disk).state (moment disk).state p.session s.ledger ledger
    → IsKept moment (stopped stage s p ledger disk) (stopped_keeping stage k p later) (history ledger) (given_of (stopped stage s p ledger disk))
