use Rattle.std.proofs.Common.{[], refl}
use Rattle.test_changes.proofs.Allowed.{added, on_ok}
use Rattle.test_changes.proofs.entries.add_store.Goals as goal

pub returns : goal.returns
returns c =
    let e1 = added _ _ [] _ _ c.requires refl c.in_ok-push.ensures.ok in
    let e2 = added _ _ _ _ _ e1 c.in_ok-stored.ensures c.in_ok-push-2.ensures.ok in
    on_ok c.push-3.result (λ e. added _ _ _ _ _ e2 refl e) c.push-3.ensures.ok
