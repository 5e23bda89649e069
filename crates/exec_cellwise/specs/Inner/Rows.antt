-- A row of a `build`.
use Rattle.std.specs.Prelude.{List, [], ◌∷◌}
use Rattle.cell_values.specs.declared.datum.Cell.TheVariants.{Full}
use Rattle.cell_values.specs.declared.datum.Row.{Row}
use Rattle.cell_values.specs.declared.schema.Attribute.{Attribute}
use Rattle.array_rows.specs.Rows.{Coordinate, placed}
use Rattle.expr_nulls.specs.Expr.{Expr}
use Rattle.expr_nulls.specs.ExprValue.{value_of}
use Rattle.logical_plan.specs.CellOps.{fit_values}

-- the row of a `build` at a coordinate
abbrev pub built_row : List Attribute → Expr → Coordinate → Row
built_row attributes e c = placed c (Full (fit_values attributes (value_of e c [] ∷ [])))
