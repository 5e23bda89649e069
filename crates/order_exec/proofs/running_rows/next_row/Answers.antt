use Rattle.std.proofs.Common.{ap, ◌∙◌, subst}
use Rattle.cell_values.specs.declared.datum.Row.{Row}
use Rattle.order_exec.specs.Inner.Running.{TakesNext}
use Rattle.order_exec.specs.Lines.{line_start}
use Rattle.order_exec.proofs.RunLaws.{next_runs, same_item}
use Rattle.order_exec.proofs.running_rows.next_row.Goals as goal

pub returns-clause-next : goal.returns-clause-next
returns-clause-next c = λ earlier row e.
    let line = line_start c.args.along.now.place c.args.along.now.low in
    let here = c.index-rows-k.result in
    subst (λ (r : Row). TakesNext line c.args.along.now.aggs.now earlier r c.args.lines.now (record { at = c.copy_coord.result; cell = c.in_ok-cell.cell }) c.take_cell.new.lines)
    (same_item c.args.k c.args.rows.now here row c.requires.place c.index-rows-k.is e)
    (next_runs line earlier here c.args.along.now.aggs.now c.line_at-line.result c.args.lines.now c.take_cell.new.lines (record { at = c.copy_coord.result; cell = c.in_ok-cell.cell }) c.line_at-line.ensures
    c.copy_coord.ensures (c.in_ok-take_cell.ensures.states earlier here c.index-rows-k.is c.line_at-line.ensures) c.in_ok-cell.ensures)

pub returns-clause-at : goal.returns-clause-at
returns-clause-at c = λ row e. c.copy_coord.ensures ∙ ap (λ (r : Row). r.at) (same_item c.args.k c.args.rows.now c.index-rows-k.result row c.requires.place c.index-rows-k.is e)
