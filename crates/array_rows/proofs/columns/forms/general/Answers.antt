use Rattle.std.proofs.Common.{◌<◌, ℕ, List, [], ap, subst}
use Rattle.cell_values.specs.declared.datum.Cell.TheVariants.{Full}
use Rattle.cell_values.specs.declared.datum.Datum.{Datum}
use Rattle.array_rows.proofs.Loops.{mapped_on}
use Rattle.array_rows.proofs.columns.forms.general.Goals as goal

pub loop-k-preserved : goal.loop-k-preserved
loop-k-preserved c =
    mapped_on (λ (row : List Datum). Full row) c.args.rows.now c.loop-k.cells c.push.new.self c.loop-k.k [] (Full c.in_ok-row.field-0)
    (subst (λ (n : ℕ). c.loop-k.k < n) c.len-k-end.ensures c.loop-k-test.true) (ap (λ (row : List Datum). Full row) c.in_ok-row.ensures)
    c.loop-k.invariant c.in_ok-push.ensures.ok
