-- Operators whose cell at a coordinate is a function of the source's cell there. A doubt stays one.
use Rattle.std.specs.Prelude.{ℕ, true, not, ◌&&◌, if◌then◌else◌, List, [], ◌∷◌, ◌++◌, map, slice_index_or, Option, Some, None}
use Rattle.cell_values.specs.declared.datum.FaultKind.TheVariants.{NullInNotNull}
use Rattle.cell_values.specs.declared.datum.Datum.{Datum}
use Rattle.cell_values.specs.declared.datum.Datum.TheVariants.{Null, Truth, Bad}
use Rattle.cell_values.specs.declared.datum.Cell.{Cell}
use Rattle.cell_values.specs.declared.datum.Cell.TheVariants.{Full, Doubt}
use Rattle.cell_values.specs.declared.datum.Row.{Row}
use Rattle.cell_values.specs.declared.schema.Attribute.{Attribute}
use Rattle.cell_values.specs.Nulls.{is_null}
use Rattle.array_rows.specs.Rows.{Coordinate}
use Rattle.array_rows.specs.Cellwise.{cell_wise}
use Rattle.expr_nulls.specs.Expr.{Expr}
use Rattle.expr_nulls.specs.ExprValue.{value_of}
use Rattle.logical_plan.specs.declared.parts.Applied.{Applied}

-- what a test makes of a cell: true keeps it, false and null leave it out, a fault leaves it in doubt
abbrev pub kept : Datum → List Datum → Option Cell
kept (Truth true) vs = Some (Full vs)
kept (Bad kind) vs = Some (Doubt kind)
kept test vs = None

abbrev pub filter_cell : Expr → Coordinate → Cell → Option Cell
filter_cell test c (Full vs) = kept (value_of test c vs) vs
filter_cell test c (Doubt kind) = Some (Doubt kind)

-- the values of further expressions, over the source's values, after these
abbrev pub apply_cell : List Applied → Coordinate → Cell → Option Cell
apply_cell values c (Full vs) = Some (Full (vs ++ map (λ a. value_of a.value c vs) values))
apply_cell values c (Doubt kind) = Some (Doubt kind)

-- the values at these places
abbrev pub project_cell : List ℕ → Coordinate → Cell → Option Cell
project_cell places c (Full vs) = Some (Full (map (λ place. slice_index_or vs place Null) places))
project_cell places c (Doubt kind) = Some (Doubt kind)

abbrev pub filter_rows : Expr → List Row → List Row
filter_rows test = cell_wise (filter_cell test)

abbrev pub apply_rows : List Applied → List Row → List Row
apply_rows values = cell_wise (apply_cell values)

abbrev pub project_rows : List ℕ → List Row → List Row
project_rows places = cell_wise (project_cell places)

-- ---- values of another schema

-- a null, of whatever code, in an attribute that is to have none is a fault
abbrev pub fit_value : Attribute → Datum → Datum
fit_value attribute v = if is_null v && not attribute.nullable then Bad NullInNotNull else v

abbrev pub fit_values : List Attribute → List Datum → List Datum
fit_values [] vs = vs
fit_values (a ∷ attributes) [] = []
fit_values (a ∷ attributes) (v ∷ vs) = fit_value a v ∷ fit_values attributes vs

abbrev pub fit_cell : List Attribute → Coordinate → Cell → Option Cell
fit_cell attributes c (Full vs) = Some (Full (fit_values attributes vs))
fit_cell attributes c (Doubt kind) = Some (Doubt kind)

abbrev pub fit_rows : List Attribute → List Row → List Row
fit_rows attributes = cell_wise (fit_cell attributes)
