use Rattle.turn_lock.specs.Seats.{IsSeatOf, IsIdle}
use Rattle.test_commits.proofs.turns.take_turns.Given as goal

abbrev pub invariant-loop-number : goal.invariant-loop-number
invariant-loop-number g l = IsSeatOf l.lock l.seat × IsIdle l.seat
