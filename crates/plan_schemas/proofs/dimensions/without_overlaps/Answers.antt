use Rattle.std.proofs.Common.{[], ◌∷◌, ◌++◌, map, take, ap, sym, ◌∙◌}
use Rattle.std.proofs.lemmas.List.{map_more, take_all}
use Rattle.logical_plan.specs.PlanSchema.{without_overlap}
use Rattle.plan_schemas.proofs.dimensions.without_overlaps.Goals as goal

pub loop-dimension-preserved : goal.loop-dimension-preserved
loop-dimension-preserved c =
    let items = c.as_slice-dimension-items.result.now in
    let i = c.loop-dimension.dimension-index in
    c.in_ok-push.ensures.ok
    ∙ ap (λ l. l ++ c.in_ok-copy_without_overlap.field-0 ∷ []) c.loop-dimension.invariant
    ∙ ap (λ x. map without_overlap (take i items) ++ x ∷ []) (c.in_ok-copy_without_overlap.ensures ∙ ap without_overlap c.dimension-item.is)
    ∙ sym (map_more without_overlap items i c.dimension-item.result c.loop-dimension-test.true)

pub returns : goal.returns
returns c =
    c.loop-dimension.invariant
    ∙ ap (map without_overlap)
    (take_all c.loop-dimension.dimension-index c.as_slice-dimension-items.result.now c.loop-dimension-test.false ∙ c.as_slice-dimension-items.ensures)
