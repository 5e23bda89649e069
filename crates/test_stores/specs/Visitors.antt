-- A session that keeps its seat.
use Rattle.afl_outside.specs.Disk.{Moment}
use Rattle.snapshot_manager.specs.declared.shared.Shared.{Shared}
use Rattle.snapshot_manager.specs.Seats.{IsIdle, IsSeatOf}
use Rattle.test_stores.specs.Visits.{IsHeld}
use Rattle.test_stores.specs.declared.visitors.Visitor.{Visitor}

pub record IsVisitor {D : Type 0} (moment : D → Moment) (shared : Shared D) (visitor : Visitor D) : Type 0 where
  pub here : IsSeatOf shared visitor.seat
  pub idle : IsIdle visitor.seat
  pub held : IsHeld moment shared visitor.seat visitor.held
