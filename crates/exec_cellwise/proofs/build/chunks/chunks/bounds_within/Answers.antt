use Rattle.std.proofs.Common.{arith, rules}
use Rattle.array_rows.specs.Dimension.{Dimension}
use Rattle.exec_box.proofs.FrontLaws.{one_more, room_for}
use Rattle.exec_cellwise.proofs.build.chunks.chunks.bounds_within.Goals as goal

pub push-requires : goal.push-requires
push-requires c =
    (omega arith, room_for (λ (d : Dimension). d.lo) c.args.dims.now c.loop-d.d-index c.loop-d.lo.items c.loop-d.invariant.low c.loop-d-test.true c.requires)

pub push-requires-in-loop-d : goal.push-requires-in-loop-d
push-requires-in-loop-d c =
    (omega arith, room_for (λ (d : Dimension). d.hi) c.args.dims.now c.loop-d.d-index c.loop-d.hi.items c.loop-d.invariant.high c.loop-d-test.true c.requires)

pub loop-d-preserved : goal.loop-d-preserved
loop-d-preserved c = record {
  low = one_more (λ (d : Dimension). d.lo) c.args.dims.now c.loop-d.d-index c.d-item.result _ c.loop-d.lo.items _ c.loop-d-test.true c.d-item.is
      c.loop-d.invariant.low c.push.ensures.items (search rules);
  high = one_more (λ (d : Dimension). d.hi) c.args.dims.now c.loop-d.d-index c.d-item.result _ c.loop-d.hi.items _ c.loop-d-test.true c.d-item.is
      c.loop-d.invariant.high c.push-in-loop-d.ensures.items (search rules);
}
