use Rattle.result_print.specs.Texts.{line_of}
use Rattle.result_print.proofs.Joined.{flat_after}
use Rattle.result_print.proofs.array.push_lines.Goals as goal

pub loop-row-preserved : goal.loop-row-preserved
loop-row-preserved c =
    flat_after line_of c.args.rows.now c.loop-row.row-index c.row-item.result c.row-item.result c.args.text.now c.loop-row.text c.write_line.new.out
    c.loop-row-test.true c.row-item.is c.loop-row.invariant c.in_ok-write_line.ensures
