use Rattle.test_stores.proofs.Seeing.{untried}
use Rattle.test_stores.proofs.steps.commit_once.Goals as goal

pub changed-answer-requires-clause-pin : goal.changed-answer-requires-clause-pin
changed-answer-requires-clause-pin g c κs within =
    let e = c.in-Ok.ensures in
    untried g.D.Disk.moment c.args.shared.now c.args.seat.now c.pin.new.seat c.in-Ok.pinned e.same e.open e.stored e.untried
