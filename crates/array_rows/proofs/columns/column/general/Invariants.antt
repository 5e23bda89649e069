use Rattle.std.proofs.Common.{◌≡◌, map, take}
use Rattle.cell_values.specs.declared.datum.Datum.TheVariants.{Int}
use Rattle.array_rows.proofs.columns.column.general.Given as goal

abbrev pub invariant-loop-number : goal.invariant-loop-number
invariant-loop-number l = l.values ≡ map Int (take l.number-index l.number-items)
