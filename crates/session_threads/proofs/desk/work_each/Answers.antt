use denote.Exit.{no}
use denote.Param.Send.{arg_send, arg_sync, param_send, param_sync, shr_sync}
use Rattle.std.proofs.Common.{rules, subst, sym}
use Rattle.std.proofs.alloc.Global.TheSendSync as global_way
use Rattle.session_threads.specs.Inner.Desks.{HasWorked, IsWaiting}
use Rattle.session_threads.proofs.Changing.{all_changed}
use Rattle.session_threads.proofs.Crossing.{desk_send, five_sync, options_sync, shared_sync}
use Rattle.session_threads.proofs.desk.work_each.Goals as goal

pub for_each_mut-requires-send-T : goal.for_each_mut-requires-send-T
for_each_mut-requires-send-T g c κs within = let t = c.type_bounds in param_send 1 _ (arg_send _ no _ (desk_send _ _ _ _ t.send-D t.send-S t.send-K))

pub for_each_mut-requires-sync-F : goal.for_each_mut-requires-sync-F
for_each_mut-requires-sync-F g c κs within =
    let t = c.type_bounds in
    param_sync 2 _ (arg_sync _ no _ (five_sync _ _ _ _ _ _ (shr_sync _ _ _ t.sync-R) (shr_sync _ _ _ global_way.the_sync) (shr_sync _ _ _ (shared_sync _ _ t.send-D))
    (shr_sync _ _ _ options_sync) (shr_sync _ _ _ t.sync-G)))

pub for_each_mut-requires-clause-accepts : goal.for_each_mut-requires-clause-accepts
for_each_mut-requires-clause-accepts g c κs within =
    let t = c.type_bounds in
    λ i p near is. (
      record { waits = subst (IsWaiting c.args.shared.now) (sym is) (c.requires.wait i p.now near); some = c.requires.some; few = c.requires.few },
      (
        param_send _ _ (arg_send _ no _ t.send-D),
        param_send _ _ (arg_send _ no _ t.send-S),
        param_send _ _ (arg_send _ no _ t.send-K),
        param_sync _ _ (arg_sync _ no _ t.sync-R),
        param_sync _ _ (arg_sync _ no _ t.sync-G),
      ),
    )

pub returns : goal.returns
returns g c =
    all_changed (HasWorked c.args.options.now.style g.D.Disk.moment g.S.Source.state g.K.Sink.state c.args.shared.now) _ _ c.args.desks.now c.for_each_mut.new.s
    (λ i p q post. post) (search rules) c.for_each_mut.ensures
