use Rattle.std.proofs.Common.{refl}
use Rattle.run_opening.specs.declared.reports.notices.Notice.TheVariants.{Memory}
use Rattle.store_state.specs.At.{standing}
use Rattle.run_opening.proofs.Reaped.{came, lacked}
use Rattle.run_opening.proofs.stores.closing.told_after.Goals as goal

pub returns-in-Ok-clause-reaped : goal.returns-in-Ok-clause-reaped
returns-in-Ok-clause-reaped g c =
    let moment = g.D.Disk.moment in
    came (standing moment c.args.store.now) (standing moment c.reap.new.self) c.notice_after.result c.in-Ok.field-0 c.in-Ok.ensures.comes c.in-Ok.ensures.ok c.in-Ok.ensures.adds

pub returns-in-Err-clause-reaped : goal.returns-in-Err-clause-reaped
returns-in-Err-clause-reaped g c =
    let moment = g.D.Disk.moment in
    lacked (standing moment c.args.store.now) (standing moment c.reap.new.self) Memory refl c.in-Err.ensures.err
