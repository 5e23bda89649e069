-- What joins of two arrays mean. Of two broken ones the left one breaks them.
use Rattle.std.specs.Prelude.{List}
use Rattle.array_rows.specs.Arrays.{Meant}
use Rattle.cell_values.specs.declared.schema.Schema.{Schema}
use Rattle.logical_plan.specs.declared.parts.Pair.{Pair}
use Rattle.logical_plan.specs.Joins.{cross_rows, join_rows}
use Rattle.logical_plan.specs.Meaning.{made_of_two}

-- the cells where both have one, side by side
abbrev pub join_meant : Schema → Meant → Meant → Meant
join_meant schema left right = made_of_two schema join_rows left right

-- a cell for each two cells whose coordinates agree in the paired dimensions
abbrev pub cross_meant : Schema → List Pair → Meant → Meant → Meant
cross_meant schema pairs left right = made_of_two schema (cross_rows pairs) left right
