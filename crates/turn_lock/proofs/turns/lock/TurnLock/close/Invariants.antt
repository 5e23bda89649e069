use Rattle.std.proofs.Common.{◌≡◌, ◌++◌, map, length}
use Rattle.turn_lock.specs.Closings.{lock_of, claims_of}
use Rattle.turn_lock.specs.Seats.{claim_of, AreIdleSeats}
use Rattle.turn_lock.proofs.turns.lock.TurnLock.close.Given as goal

abbrev pub invariant-loop-last : goal.invariant-loop-last
invariant-loop-last g l = record {
  same : lock_of l.closing ≡ l.fn.self;
  idle : AreIdleSeats l.fn.self l.seats;
  claimed : map claim_of l.seats ++ claims_of l.closing ≡ map claim_of l.initial.seats;
}

abbrev pub decreases-loop-last : goal.decreases-loop-last
decreases-loop-last g l = length l.seats
