use Rattle.std.proofs.Common.{subst, sym}
use Rattle.test_stores.specs.Visits.{IsFree}
use Rattle.test_threads.proofs.threads.commit_often.Goals as goal
use Rattle.test_threads.proofs.threads.commit_often.Goals.{in-Ok, in-Err}

pub loop-commits-preserved : goal.loop-commits-preserved
loop-commits-preserved g c =
    let free = IsFree g.D.Disk.moment c.args.shared.now in
    elim c.match-statement_behind.branch [
      | in-Ok w ↦ subst free (sym w.seat-is) w.commit_once.ensures
      | in-Err w ↦ subst free (sym w.seat-is) c.loop-commits.invariant
    ]
