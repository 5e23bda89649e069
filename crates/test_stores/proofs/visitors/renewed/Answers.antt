use Rattle.std.proofs.Common.{subst, sym}
use Rattle.test_stores.specs.Visits.{IsFree}
use Rattle.test_stores.proofs.visitors.renewed.Goals as goal
use Rattle.test_stores.proofs.visitors.renewed.Goals.{in-Ok, in_default}

pub loop-place-preserved : goal.loop-place-preserved
loop-place-preserved g c =
    let free = IsFree g.D.Disk.moment c.args.shared.now in
    elim c.match-renewal.branch [
      | in-Ok w ↦ subst free (sym w.seat-is) w.commit_once-answer.ensures
      | in_default w ↦ subst free (sym w.seat-is) c.loop-place.invariant
    ]
