-- What a commit has found in its turn when it is tried.
use Rattle.std.specs.Prelude.{◌≡◌, false, IsTrue, Option}
use Rattle.afl_outside.specs.Disk.{Moment}
use Rattle.array_geom.specs.declared.chunk.Changed.{Changed}
use Rattle.plan_changes.specs.declared.change.Change.{Change}
use Rattle.event_core.specs.Allowed.{is_pinned}
use Rattle.store_ledger.specs.declared.pinned.Pinned.{Pinned}
use Rattle.store_ledger.specs.Ledger.{history, is_noted, is_tried}
use Rattle.turn_lock.specs.declared.turns.seat.Turn.{Turn}
use Rattle.array_store.specs.StoreParts.{StoreParts}
use Rattle.array_store.specs.At.{standing}
use Rattle.array_store.specs.Events.{events}
use Rattle.array_store.specs.Prepared.{IsAsked}
use Rattle.array_store.specs.Starts.{start_of}
use Rattle.array_store.specs.Told.{IsTold}
use Rattle.snapshot_manager.specs.declared.seat.Seat.{Seat}
use Rattle.snapshot_manager.specs.declared.shared.Shared.{Shared}
use Rattle.snapshot_manager.specs.Seats.{seen, session_of, start, store_of, HasTurn, IsSeatOf}

-- the seat has the turn, whose store is as it was found, and the change is the first that its session tries under an open pin
pub record MayTry {D : Type 0} (moment : D → Moment) (shared : Shared D) (seat : Seat D) (pinned : Pinned) (turn : Turn (StoreParts D)) (change : Change) (changed : Option Changed) : Type 0 where
  pub here : IsSeatOf shared seat
  pub has_turn : HasTurn seat turn
  pub session : pinned.session ≡ session_of seat
  pub begun : start_of (standing moment (store_of turn)) ≡ start moment shared
  pub found : events (standing moment (store_of turn)) ≡ seen seat
  pub told : IsTold (start moment shared) (seen seat) (standing moment (store_of turn))
  pub open_pin : IsTrue (is_pinned pinned.session (history (store_of turn).ledger))
  pub untried : is_noted is_tried (store_of turn).ledger pinned.session ≡ false
  pub asked : IsAsked moment (standing moment (store_of turn)) change changed
