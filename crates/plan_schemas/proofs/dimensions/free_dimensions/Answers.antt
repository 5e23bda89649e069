use Rattle.std.proofs.Common.{[], ◌∷◌, ◌++◌, take, cond, ap, sym, ◌∙◌}
use Rattle.std.proofs.lemmas.List.{take_all}
use Rattle.logical_plan.specs.BoxOps.{items_but, fixed_places}
use Rattle.logical_plan.proofs.Items.{free_step}
use Rattle.plan_schemas.proofs.dimensions.free_dimensions.Goals as goal

pub loop-place-preserved : goal.loop-place-preserved
loop-place-preserved c =
    let dimensions = c.as_slice-dimension-items.result.now in
    let place = c.loop-place.place in
    let dimension = c.dimension-item.result in
    c.in_ok-push_unless.ensures
    ∙ ap (λ l. l ++ cond c.is_fixed.result [] (dimension ∷ [])) c.loop-place.invariant
    ∙ ap (λ b. items_but (fixed_places c.args.fixed.now) 0 (take place dimensions) ++ cond b [] (dimension ∷ [])) c.is_fixed.ensures
    ∙ sym (free_step c.args.fixed.now dimensions place dimension c.loop-place-test.true c.dimension-item.is)

pub returns : goal.returns
returns c =
    c.loop-place.invariant
    ∙ ap (items_but (fixed_places c.args.fixed.now) 0)
    (take_all c.loop-place.place c.as_slice-dimension-items.result.now c.loop-place-test.false ∙ c.as_slice-dimension-items.ensures)
