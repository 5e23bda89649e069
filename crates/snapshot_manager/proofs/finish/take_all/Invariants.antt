use Rattle.std.proofs.Common.{◌≡◌, ◌++◌, map, length, All}
use Rattle.turn_lock.specs.Closings.{lock_of, claims_of}
use Rattle.snapshot_manager.specs.Seats.{claim_in, IsIdleAt}
use Rattle.snapshot_manager.proofs.finish.take_all.Given as goal

abbrev pub invariant-loop-last : goal.invariant-loop-last
invariant-loop-last g l = record {
  same : lock_of l.closing ≡ lock_of l.initial.closing;
  idle : All (IsIdleAt (lock_of l.initial.closing)) l.seats;
  claimed : map claim_in l.seats ++ claims_of l.closing ≡ map claim_in l.initial.seats ++ claims_of l.initial.closing;
}

abbrev pub decreases-loop-last : goal.decreases-loop-last
decreases-loop-last g l = length l.seats
