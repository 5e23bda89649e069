use denote.Exit.{no}
use denote.Param.Send.{arg_send, arg_sync, param_send, param_sync, shr_sync}
use Rattle.std.proofs.Common.{arith, subst}
use Rattle.std.proofs.alloc.Global.TheSendSync as global_way
use Rattle.snapshot_manager.specs.Seats.{IsIdle, IsSeatOf}
use Rattle.test_threads.proofs.Crossing.{count_sync, five_sync, seat_send, shared_sync, working_sync}
use Rattle.test_threads.proofs.threads.work_all.Goals as goal

pub for_each_mut-requires-send-T : goal.for_each_mut-requires-send-T
for_each_mut-requires-send-T g c κs within = param_send 1 _ (arg_send _ no _ (seat_send _ _ c.type_bounds.send-D))

pub for_each_mut-requires-sync-F : goal.for_each_mut-requires-sync-F
for_each_mut-requires-sync-F g c κs within =
    let t = c.type_bounds in
    param_sync 2 _ (arg_sync _ no _ (five_sync _ _ _ _ _ _ (shr_sync _ _ _ t.sync-R) (shr_sync _ _ _ (shared_sync _ _ t.send-D))
    (shr_sync _ _ _ global_way.the_sync) (shr_sync _ _ _ working_sync) (shr_sync _ _ _ count_sync)))

pub returns-clause-seats : goal.returns-clause-seats
returns-clause-seats g c = λ k d near.
    let one = (c.for_each_mut.ensures k d (omega arith)).1 in
    subst (λ seat. IsSeatOf c.args.shared.now seat × IsIdle seat) one.left one.call
