use Rattle.std.proofs.Common.{[], ◌∷◌, ◌++◌, map, take, ap, sym, ◌∙◌}
use Rattle.std.proofs.lemmas.List.{map_more, take_all}
use Rattle.logical_plan.specs.declared.parts.Aggregate.{Aggregate}
use Rattle.logical_plan.specs.PlanSchema.{aggregate_attributes, aggregate_kind, derived}
use Rattle.plan_schemas.proofs.attributes.attributes_of_aggregates.Goals as goal

pub loop-aggregate-preserved : goal.loop-aggregate-preserved
loop-aggregate-preserved c =
    let items = c.as_slice-aggregate-items.result.now in
    let i = c.loop-aggregate.aggregate-index in
    let made = λ (g : Aggregate). derived g.name (aggregate_kind c.args.attributes.now g) in
    c.in_ok-push.ensures.ok
    ∙ ap (λ l. l ++ c.in_ok-derived_attribute.field-0 ∷ []) c.loop-aggregate.invariant
    ∙ ap (λ x. map made (take i items) ++ x ∷ [])
    (c.in_ok-derived_attribute.ensures ∙ ap (derived c.aggregate-item.result.name) c.kind_of_result-kind.ensures ∙ ap made c.aggregate-item.is)
    ∙ sym (map_more made items i c.aggregate-item.result c.loop-aggregate-test.true)

pub returns : goal.returns
returns c =
    c.loop-aggregate.invariant
    ∙ ap (aggregate_attributes c.args.attributes.now)
    (take_all c.loop-aggregate.aggregate-index c.as_slice-aggregate-items.result.now c.loop-aggregate-test.false ∙ c.as_slice-aggregate-items.ensures)
