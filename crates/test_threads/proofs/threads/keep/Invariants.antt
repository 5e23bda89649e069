use Rattle.snapshot_manager.specs.Seats.{IsIdle, IsSeatOf}
use Rattle.test_threads.proofs.threads.keep.Given as goal

abbrev pub invariant-loop : goal.invariant-loop
invariant-loop g l = (goal.iterator-loop g).can_next l.iterator' × (goal.iterator-loop g).is_finite l.iterator' × IsSeatOf l.shared l.seat × IsIdle l.seat
