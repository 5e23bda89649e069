use Rattle.array_rows.specs.Boxes.{moved}
use Rattle.logical_plan.specs.BoxOps.{fixed_places, has_fixed, items_but}
use Rattle.exec_box.proofs.FrontLaws.{row_more}
use Rattle.exec_box.proofs.rows.slices.slice_of_rows.Goals as goal

pub loop-row-preserved : goal.loop-row-preserved
loop-row-preserved c =
    row_more (moved (items_but (fixed_places c.args.fixed.now) 0)) (has_fixed c.args.fixed.now) _ c.loop-row.row-index c.row-item.result c.loop-row.slice
    c.push_slice.new.rows c.loop-row-test.true c.row-item.is c.loop-row.invariant c.in_ok-push_slice.ensures
