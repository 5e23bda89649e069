-- Values that are a number or a truth.
use Rattle.cell_values.specs.declared.datum.Datum.{Datum}
use Rattle.cell_values.specs.declared.datum.Datum.TheVariants.{Int, Truth as TruthValue}
use Rattle.array_rows.specs.declared.columns.small.Small.{Small}
use Rattle.array_rows.specs.declared.columns.small.Small.TheVariants.{Number, Truth, Other}

abbrev pub seen : Datum → Small
seen (Int n) = Number n
seen (TruthValue b) = Truth b
seen v = Other
