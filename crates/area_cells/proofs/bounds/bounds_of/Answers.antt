use Rattle.std.proofs.Common.{arith, rules}
use Rattle.cell_values.specs.declared.schema.Dimension.{Dimension}
use Rattle.area_cells.proofs.BoundLaws.{one_more, room_for}
use Rattle.area_cells.proofs.bounds.bounds_of.Goals as goal

pub push-requires : goal.push-requires
push-requires c =
    let l = c.loop-dimension in
    (omega arith, room_for (λ (d : Dimension). d.lo) c.args.dimensions.now l.dimension-index l.lo.items l.invariant.low c.loop-dimension-test.true c.requires)

pub push-requires-in-loop-dimension : goal.push-requires-in-loop-dimension
push-requires-in-loop-dimension c =
    let l = c.loop-dimension in
    (omega arith, room_for (λ (d : Dimension). d.hi) c.args.dimensions.now l.dimension-index l.hi.items l.invariant.high c.loop-dimension-test.true c.requires)

pub loop-dimension-preserved : goal.loop-dimension-preserved
loop-dimension-preserved c =
    let l = c.loop-dimension in
    record {
      low = one_more (λ (d : Dimension). d.lo) c.args.dimensions.now l.dimension-index c.dimension-item.result _ l.lo.items _ c.loop-dimension-test.true
          c.dimension-item.is l.invariant.low c.push.ensures.items (search rules);
      high = one_more (λ (d : Dimension). d.hi) c.args.dimensions.now l.dimension-index c.dimension-item.result _ l.hi.items _ c.loop-dimension-test.true
          c.dimension-item.is l.invariant.high c.push-in-loop-dimension.ensures.items (search rules);
    }
