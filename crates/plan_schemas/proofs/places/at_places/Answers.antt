use Rattle.std.proofs.Common.{◌++◌, ap, sym, ◌∙◌}
use Rattle.std.proofs.lemmas.List.{take_all}
use Rattle.std.specs.Prelude.{slice_get, slice_index}
use Rattle.std.specs.Option.{option_to_list}
use Rattle.logical_plan.specs.BoxOps.{items_at}
use Rattle.logical_plan.proofs.Items.{items_at_step}
use Rattle.plan_schemas.proofs.places.at_places.Goals as goal

pub loop-place-preserved : goal.loop-place-preserved
loop-place-preserved g c =
    let places = c.as_slice-place-items.result.now in
    let item = option_to_list (slice_get c.args.items.now (slice_index places c.loop-place.place-index)) in
    c.in_ok-push_from.ensures
    ∙ ap (λ l. l ++ item) c.loop-place.invariant
    ∙ sym (items_at_step c.args.items.now places c.loop-place.place-index c.loop-place-test.true)

pub returns : goal.returns
returns g c =
    c.loop-place.invariant
    ∙ ap (λ ps. items_at ps c.args.items.now)
    (take_all c.loop-place.place-index c.as_slice-place-items.result.now c.loop-place-test.false ∙ c.as_slice-place-items.ensures)
