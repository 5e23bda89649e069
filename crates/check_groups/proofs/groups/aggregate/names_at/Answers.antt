use Rattle.std.proofs.Common.{◌++◌, map, sym, ap, ◌∙◌}
use Rattle.std.proofs.lemmas.List.{take_all}
use Rattle.std.specs.Option.{option_to_list}
use Rattle.std.specs.Prelude.{slice_get, slice_index}
use Rattle.cell_values.specs.Schemas.{dimension_names}
use Rattle.logical_plan.specs.BoxOps.{items_at}
use Rattle.logical_plan.specs.PlanSchema.{without_overlap}
use Rattle.check_groups.proofs.GroupNames.{named_at_step}
use Rattle.check_groups.proofs.groups.aggregate.names_at.Goals as goal

pub loop-place-preserved : goal.loop-place-preserved
loop-place-preserved c =
    let dims = c.args.dimensions.now in
    let places = c.args.places.now in
    let i = c.loop-place.place-index in
    let more = dimension_names (map without_overlap (option_to_list (slice_get dims (slice_index places i)))) in
    c.in_ok-push_name_at.ensures ∙ ap (λ l. l ++ more) c.loop-place.invariant ∙ sym (named_at_step dims places i c.loop-place-test.true)

pub returns : goal.returns
returns c =
    c.loop-place.invariant
    ∙ ap (λ l. dimension_names (map without_overlap (items_at l c.args.dimensions.now)))
    (take_all c.loop-place.place-index c.args.places.now c.loop-place-test.false)
