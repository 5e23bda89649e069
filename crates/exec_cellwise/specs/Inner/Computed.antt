-- The values of expressions at the places of a grid.
use Rattle.std.specs.Prelude.{ℕ, ℤ, List, ◌++◌, map}
use Rattle.cell_values.specs.declared.datum.Cell.{Cell}
use Rattle.cell_values.specs.declared.datum.Cell.TheVariants.{Full, Doubt}
use Rattle.cell_values.specs.declared.datum.Datum.{Datum}
use Rattle.array_geom.specs.Geometry.{coordinate_in}
use Rattle.expr_nulls.specs.Expr.{Expr}
use Rattle.expr_nulls.specs.ExprValue.{value_of}
use Rattle.logical_plan.specs.declared.parts.Applied.{Applied}

-- the value of an expression over values that stand at a place
abbrev pub value_there : List ℤ → List ℕ → Expr → ℕ → List Datum → Datum
value_there low lengths e place values = value_of e (coordinate_in low lengths place) values

-- those of some expressions
abbrev pub values_there : List ℤ → List ℕ → List Applied → ℕ → List Datum → List Datum
values_there low lengths more place values = map (λ a. value_there low lengths a.value place values) more

-- a cell with some values, and others behind them
abbrev pub behind : List Datum → List Datum → Cell
behind values more = Full (values ++ more)

-- the cell at a place with those of some expressions behind its own. A doubt stays one
abbrev pub applied_at : List ℤ → List ℕ → List Applied → ℕ → Cell → Cell
applied_at low lengths more place (Full values) = behind values (values_there low lengths more place values)
applied_at low lengths more place (Doubt kind) = Doubt kind
