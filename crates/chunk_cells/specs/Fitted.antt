-- An array with another schema of the same bounds and kinds.
use Rattle.std.specs.Prelude.{◌≡◌, List, length, Result, Ok, Err, ⊤}
use Rattle.cell_values.specs.declared.datum.Broken.{Broken}
use Rattle.cell_values.specs.declared.datum.Cell.{Cell}
use Rattle.cell_values.specs.declared.datum.Cell.TheVariants.{Full, Doubt}
use Rattle.cell_values.specs.declared.datum.Row.{Row}
use Rattle.cell_values.specs.declared.schema.Attribute.{Attribute}
use Rattle.cell_values.specs.declared.schema.Schema.{Schema}
use Rattle.array_rows.specs.Arrays.{Meant}
use Rattle.logical_plan.specs.CellOps.{fit_rows}

-- a cell that is there has as many values as there are attributes
abbrev pub HasValues : List Attribute → Cell → Type 0
HasValues attributes (Full values) = length values ≡ length attributes
HasValues attributes (Doubt kind) = ⊤

-- the same cells, with a fault for each null that is not to be there; what is broken stays broken
abbrev pub fitted_result : List Attribute → Result (List Row) Broken → Result (List Row) Broken
fitted_result attributes (Ok rows) = Ok (fit_rows attributes rows)
fitted_result attributes (Err broken) = Err broken

abbrev pub fitted : Schema → Meant → Meant
fitted schema meant = record { schema = schema; rows = fitted_result schema.attributes meant.rows }
