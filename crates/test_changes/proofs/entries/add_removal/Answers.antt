use Rattle.std.proofs.Common.{refl, take, reverse}
use Rattle.event_core.specs.Worked.{worked}
use Rattle.test_changes.proofs.Allowed.{added, on_ok}
use Rattle.test_changes.proofs.entries.add_removal.Goals as goal

pub returns : goal.returns
returns c =
    let e1 = added _ _ (take 3 (reverse worked)) _ _ c.requires refl c.in_ok-push.ensures.ok in
    let e2 = added _ _ _ _ _ e1 refl c.in_ok-push-2.ensures.ok in
    let e3 = added _ _ _ _ _ e2 c.in_ok-removed.ensures c.in_ok-push-3.ensures.ok in
    on_ok c.push-4.result (λ e. added _ _ _ _ _ e3 refl e) c.push-4.ensures.ok
