use Rattle.test_stores.proofs.Seeing.{begun_held}
use Rattle.test_stores.proofs.visitors.free_step.Goals as goal

pub returns-in-Pin-clause-held : goal.returns-in-Pin-clause-held
returns-in-Pin-clause-held g c =
    let e = c.pin.ensures in
    begun_held g.D.Disk.moment c.args.shared.now c.args.seat.now c.pin.new.seat c.pin.result c.begun.result.0 e.same e.open e.stored e.untried e.none c.begun.ensures.ok c.begun.ensures.err
