use Rattle.std.proofs.Common.{ap, ◌∙◌, List, get_or}
use Rattle.std.proofs.lemmas.List.{take_all}
use Rattle.cell_values.specs.declared.datum.Datum.{Datum}
use Rattle.cell_values.specs.declared.datum.Datum.TheVariants.{Null}
use Rattle.array_rows.specs.RowsIn.{row_at}
use Rattle.array_rows.proofs.Loops.{mapped_on}
use Rattle.array_rows.proofs.columns.filling.values_at.Goals as goal

pub loop-column-preserved : goal.loop-column-preserved
loop-column-preserved c =
    mapped_on (λ (column : List Datum). get_or column c.args.k Null) c.args.columns.now c.loop-column.values c.push.new.self c.loop-column.column-index
    c.column-item.result c.in_ok-value.field-0 c.loop-column-test.true
    (c.in_ok-value.ensures ∙ ap (λ (column : List Datum). get_or column c.args.k Null) c.column-item.is) c.loop-column.invariant c.in_ok-push.ensures.ok

pub returns : goal.returns
returns c = c.loop-column.invariant ∙ ap (row_at c.args.k) (take_all c.loop-column.column-index c.args.columns.now c.loop-column-test.false)
