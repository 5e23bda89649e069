use Rattle.test_stores.specs.Visits.{IsFree}
use Rattle.test_stores.proofs.visitors.renewed.Given as goal

abbrev pub invariant-loop-place : goal.invariant-loop-place
invariant-loop-place g l = IsFree g.D.Disk.moment l.shared l.seat
