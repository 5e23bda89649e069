use Rattle.array_rows.specs.Boxes.{is_inside, moved}
use Rattle.exec_box.specs.Moves.{lowered}
use Rattle.exec_box.proofs.FrontLaws.{row_more}
use Rattle.exec_box.proofs.rows.parts.lowered_rows.Goals as goal

pub loop-row-preserved : goal.loop-row-preserved
loop-row-preserved c =
    row_more (moved (lowered c.args.area.now.lo.items)) (is_inside c.args.area.now) _ c.loop-row.row-index c.row-item.result c.loop-row.parts
    c.push_part.new.parts c.loop-row-test.true c.row-item.is c.loop-row.invariant c.in_ok-push_part.ensures
