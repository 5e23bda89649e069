use Rattle.array_rows.proofs.RowLaws.{on_ok}
use Rattle.order_exec.proofs.RunLaws.{next_taken, one_row}
use Rattle.order_exec.specs.Lines.{line_start}
use Rattle.order_exec.proofs.running_rows.take_cell.Goals as goal

pub returns-clause-states : goal.returns-clause-states
returns-clause-states c =
    on_ok c.take_rows.result (λ takes earlier row e f keeps next.
    next_taken (line_start c.args.along.now.place c.args.along.now.low) earlier row c.args.along.now.aggs.now c.args.line.now _ c.args.lines.now c.take_rows.new.groups
    (one_row c.args.k c.args.rows.now row c.requires.place e) f takes keeps next) c.take_rows.ensures.states
