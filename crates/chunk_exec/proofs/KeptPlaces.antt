-- Operators that keep places, over rows in place of their source.
use Rattle.std.proofs.Common.{ℕ, IsTrue, List, [], length, Result, Ok, Err, refl}
use Rattle.std.specs.Prelude.{IfOk}
use Rattle.cell_values.specs.declared.datum.Broken.{Broken}
use Rattle.cell_values.specs.declared.datum.Row.{Row}
use Rattle.cell_values.specs.declared.schema.Bounds.{Bounds}
use Rattle.cell_values.specs.declared.schema.Kind.TheVariants.{Bool as Truths}
use Rattle.cell_values.specs.declared.schema.Schema.{Schema}
use Rattle.cell_values.specs.Schemas.{IsValid}
use Rattle.array_rows.specs.Arrays.{AreRowsOf}
use Rattle.array_rows.specs.Boxes.{within}
use Rattle.expr_nulls.specs.Expr.{Expr}
use Rattle.logical_plan.specs.declared.parts.Applied.{Applied}
use Rattle.logical_plan.specs.declared.parts.Leaf.{Leaf}
use Rattle.logical_plan.specs.CellOps.{filter_rows, apply_rows, project_rows}
use Rattle.logical_plan.specs.Faults.{if_whole, and_then}
use Rattle.logical_plan.specs.Meaning.{Database}
use Rattle.logical_plan.specs.PlanSchema.{apply_schema, project_schema}
use Rattle.logical_plan.specs.Query.{Query, scanned, filtered, applied, projected, between}
use Rattle.logical_plan.specs.Typing.{is_over, fits_apply, are_below, is_box_of}
use Rattle.logical_plan.proofs.ArrayLaws.{typed_arrays}

-- ---- arrays that may be broken

pub whole_follows : (P Q : List Row → Type 0) (f : List Row → List Row) → ((rows : List Row) → P rows → Q (f rows)) → (r : Result (List Row) Broken) → IfOk r P → IfOk (if_whole f r) Q
whole_follows P Q f h (Ok rows) p = h rows p
whole_follows P Q f h (Err broken) p = p

pub both_follow : (P Q R : List Row → Type 0) (f : List Row → List Row → List Row) → ((left right : List Row) → P left → Q right → R (f left right)) → (l r : Result (List Row) Broken) → IfOk l P → IfOk r Q
    → IfOk (and_then (λ left. if_whole (f left) r) l) R
both_follow P Q R f h (Ok left) (Ok right) p q = h left right p q
both_follow P Q R f h (Ok left) (Err broken) p q = q
both_follow P Q R f h (Err broken) r p q = p

-- ---- a source that is any array

abbrev leaf_of : Schema → Leaf
leaf_of schema = record { name = []; version = 1; schema = schema }

abbrev source_of : Schema → Query
source_of schema = scanned (leaf_of schema)

abbrev holding : List Row → Database
holding rows name number = rows

pub filtered_array : (schema : Schema) (test : Expr) → IsTrue (is_over schema Truths test) → (rows : List Row) → AreRowsOf schema rows → AreRowsOf schema (filter_rows test rows)
filtered_array schema test over rows are = typed_arrays (holding rows) (filtered (source_of schema) test) refl (are.valid, over) (are, tt)

pub applied_array : (schema : Schema) (values : List Applied) → IsTrue (fits_apply schema values) → IsValid (apply_schema values schema) → (rows : List Row) → AreRowsOf schema rows → AreRowsOf (apply_schema values schema) (apply_rows values rows)
applied_array schema values fits valid rows are = typed_arrays (holding rows) (applied (source_of schema) values) refl (are.valid, fits, valid) (are, tt)

pub projected_array : (schema : Schema) (places : List ℕ) → IsTrue (are_below (length schema.attributes) places) → IsValid (project_schema places schema) → (rows : List Row) → AreRowsOf schema rows
    → AreRowsOf (project_schema places schema) (project_rows places rows)
projected_array schema places below valid rows are = typed_arrays (holding rows) (projected (source_of schema) places) refl (are.valid, below, valid) (are, tt)

pub boxed_array : (schema : Schema) (area : Bounds) → IsTrue (is_box_of schema area) → (rows : List Row) → AreRowsOf schema rows → AreRowsOf schema (within area rows)
boxed_array schema area box rows are = typed_arrays (holding rows) (between (source_of schema) area) refl (are.valid, box) (are, tt)
