use Rattle.test_stores.specs.Visits.{IsFree}
use Rattle.test_threads.proofs.threads.commit_often.Given as goal

abbrev pub invariant-loop-commits : goal.invariant-loop-commits
invariant-loop-commits g l = IsFree g.D.Disk.moment l.shared l.seat
