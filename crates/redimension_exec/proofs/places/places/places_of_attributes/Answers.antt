use Rattle.std.proofs.Common.{map, ap, ◌∙◌}
use Rattle.std.proofs.lemmas.List.{take_all}
use Rattle.logical_plan.specs.Redimension.{value_origin}
use Rattle.redimension_exec.proofs.FrontLaws.{place_more}
use Rattle.redimension_exec.proofs.places.places.places_of_attributes.Goals as goal

pub loop-attribute-preserved : goal.loop-attribute-preserved
loop-attribute-preserved c =
    let l = c.loop-attribute in
    place_more (value_origin c.args.source.now) c.args.attributes.now l.attribute-index c.attribute-item.result _ l.places _ c.loop-attribute-test.true c.attribute-item.is l.invariant
    c.in_ok-push.ensures.ok c.place_of_attribute.ensures

pub returns : goal.returns
returns c =
    let l = c.loop-attribute in
    l.invariant ∙ ap (map (value_origin c.args.source.now)) (take_all l.attribute-index c.args.attributes.now c.loop-attribute-test.false)
