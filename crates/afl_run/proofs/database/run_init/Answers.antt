use Rattle.afl_run.proofs.MakingLemmas.{makes, makes_nothing}
use Rattle.afl_run.proofs.database.run_init.Goals as goal

pub returns-in-Ok-clause-makes : goal.returns-in-Ok-clause-makes
returns-in-Ok-clause-makes g c =
    let moment = g.F.Device.Disk.moment in
    let state = g.F.Shelf.state in
    let device = c.in-Ok.ensures in
    let r = c.made.result in
    let e = c.made.ensures in
    makes moment state c.args.name.now (state c.args.shelf) c.open_device.new.shelf r.shelf (moment c.in-Ok.disk) r.notice r.disk
    device.new device.content device.others device.handed e.shelf e.same e.tells e.opened e.kept

pub returns-in-Err-clause-makes : goal.returns-in-Err-clause-makes
returns-in-Err-clause-makes g c =
    let state = g.F.Shelf.state in
    let told = c.in-Err.ensures in
    let r = c.unrun.result in
    let e = c.unrun.ensures in
    makes_nothing g.F.Device.Disk.moment state c.args.name.now (state c.args.shelf) c.open_device.new.shelf r.shelf c.in-Err.notice r.notice r.disk
    told.cause told.others told.handed e.shelf e.notice e.disk
