use denote.Exit.{no}
use denote.Param.Send.{arg_send, param_send, shr_send}
use Rattle.std.proofs.Common.{subst, sym}
use Rattle.session_threads.specs.Inner.Desks.{IsReaper}
use Rattle.session_threads.proofs.Crossing.{seat_send, shared_sync, three_send}
use Rattle.session_threads.proofs.reaper.beside_reaper.Goals as goal

pub join-own-requires-send-F : goal.join-own-requires-send-F
join-own-requires-send-F g c κs within =
    let t = c.type_bounds in
    param_send 1 _ (arg_send _ no _ (three_send _ _ _ _ (shr_send _ _ _ t.sync-R) (shr_send _ _ _ (shared_sync _ _ t.send-D)) (seat_send _ _ t.send-D)))

pub join-own-requires-send-A : goal.join-own-requires-send-A
join-own-requires-send-A g c κs within = param_send 3 _ (arg_send _ no _ (seat_send _ _ c.type_bounds.send-D))

pub reap_once-requires : goal.reap_once-requires
reap_once-requires g c =
    let own = c.join-own.ensures.first in
    subst (λ n. IsReaper c.args.shared.now n c.join-own.result.0) (sym own.session_is) own

pub returns-clause-own : goal.returns-clause-own
returns-clause-own g c = subst (λ n. IsReaper c.args.shared.now n c.reap_once.new.seat) c.join-own.ensures.first.session_is c.reap_once.ensures
