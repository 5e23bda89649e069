use Rattle.std.proofs.Common.{◌∙◌, ap, false, replicate}
use Rattle.event_core.proofs.Reaping.{unmarked, ok_goes_on}
use Rattle.store_versions.specs.States.{LeanState}
use Rattle.store_versions.proofs.lean.lean.state.LeanCore.unused_pages.Goals as goal

pub returns : goal.returns
returns c =
    ok_goes_on c.others.result _ _
    (unmarked c.args.self.now.core c.in_ok-set.set c.mark_live.new.set (c.in_ok-set.ensures ∙ ap (λ (s : LeanState). replicate s.core.limit false) c.self.view_is)
    c.mark_live.ensures.limit c.mark_live.ensures.pages)
    c.others.ensures
