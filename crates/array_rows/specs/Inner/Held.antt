-- The values that a column holds.
use Rattle.std.specs.Prelude.{List, map}
use Rattle.cell_values.specs.declared.datum.Datum.{Datum}
use Rattle.cell_values.specs.declared.datum.Datum.TheVariants.{Int}
use Rattle.array_rows.specs.declared.columns.column.Held.{Held}
use Rattle.array_rows.specs.declared.columns.column.Held.TheVariants.{Numbers, Values}

abbrev pub values_in : Held → List Datum
values_in (Numbers numbers) = map Int numbers
values_in (Values values) = values
