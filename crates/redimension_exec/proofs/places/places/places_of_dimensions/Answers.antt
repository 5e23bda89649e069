use Rattle.std.proofs.Common.{map, ap, ◌∙◌}
use Rattle.std.proofs.lemmas.List.{take_all}
use Rattle.logical_plan.specs.Redimension.{origin_of}
use Rattle.redimension_exec.proofs.FrontLaws.{place_more}
use Rattle.redimension_exec.proofs.places.places.places_of_dimensions.Goals as goal

pub loop-dimension-preserved : goal.loop-dimension-preserved
loop-dimension-preserved c =
    let l = c.loop-dimension in
    place_more (origin_of c.args.source.now) c.args.dimensions.now l.dimension-index c.dimension-item.result _ l.places _ c.loop-dimension-test.true c.dimension-item.is l.invariant
    c.in_ok-push.ensures.ok c.place_of_dimension.ensures

pub returns : goal.returns
returns c =
    let l = c.loop-dimension in
    l.invariant ∙ ap (map (origin_of c.args.source.now)) (take_all l.dimension-index c.args.dimensions.now c.loop-dimension-test.false)
