use Rattle.std.proofs.Common.{rules, subst, sym}
use Rattle.session_threads.specs.Inner.Desks.{CanWork, HasWorked}
use Rattle.session_threads.proofs.Changing.{changed_whole}
use Rattle.session_threads.proofs.desk.work_all.Goals as goal

pub returns : goal.returns
returns g c =
    changed_whole (HasWorked c.args.options.now.style g.D.Disk.moment g.S.Source.state g.K.Sink.state c.args.shared.now) c.args.desks.items c.as_mut_slice.result.now
    c.work_each.new.desks c.args.desks.len c.as_mut_slice.ensures.value (search rules) c.work_each.ensures

pub work_each-requires-after_bounds : goal.work_each-requires-after_bounds
work_each-requires-after_bounds g c κs within =
    subst (CanWork c.args.shared.now c.args.options.now.workers) (sym c.as_mut_slice.ensures.value) c.requires
