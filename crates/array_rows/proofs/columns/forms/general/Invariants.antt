use Rattle.std.proofs.Common.{◌≡◌, map, take}
use Rattle.cell_values.specs.declared.datum.Cell.TheVariants.{Full}
use Rattle.array_rows.proofs.columns.forms.general.Given as goal

abbrev pub invariant-loop-k : goal.invariant-loop-k
invariant-loop-k l = l.cells ≡ map Full (take l.k l.rows)
