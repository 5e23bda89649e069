use Rattle.std.proofs.Common.{◌∙◌, List, map, get_or, ap}
use Rattle.std.proofs.lemmas.List.{take_all}
use Rattle.logical_plan.specs.Redimension.{target_value}
use Rattle.redimension_exec.specs.declared.places.places.Place.{Place}
use Rattle.redimension_exec.specs.declared.places.places.Place.TheVariants.{OfDimension}
use Rattle.redimension_exec.specs.Inner.Places.{origin}
use Rattle.redimension_exec.proofs.FrontLaws.{value_more}
use Rattle.redimension_exec.proofs.places.numbers.values_from.Goals as goal

pub loop-place-preserved : goal.loop-place-preserved
loop-place-preserved c =
    let l = c.loop-place in
    let from = origin (get_or c.args.places.now l.place-index (OfDimension 0)) in
    value_more (target_value c.args.at.now.items c.args.values.now) c.args.places.now l.place-index (OfDimension 0) _ l.made _ c.loop-place-test.true
    l.invariant c.in_ok-push.ensures.ok (c.in_ok-value_from.ensures ∙ ap (λ vs. target_value c.args.at.now.items vs from) c.as_slice.ensures)

pub returns : goal.returns
returns c =
    let value = target_value c.args.at.now.items c.args.values.now in
    c.loop-place.invariant
    ∙ ap (λ (ps : List Place). map value (map origin ps)) (take_all c.loop-place.place-index c.args.places.now c.loop-place-test.false)
