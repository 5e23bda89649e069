-- Words for small plans.
use Rattle.std.proofs.Common.{ℕ, ℤ, pos, true, List, [], ◌∷◌, codes}
use Rattle.cell_values.specs.declared.datum.Datum.{Datum}
use Rattle.cell_values.specs.declared.datum.Datum.TheVariants.{Int}
use Rattle.cell_values.specs.declared.datum.Cell.TheVariants.{Full}
use Rattle.cell_values.specs.declared.datum.FaultKind.{FaultKind}
use Rattle.cell_values.specs.declared.datum.Broken.{Broken}
use Rattle.cell_values.specs.declared.datum.Row.{Row}
use Rattle.cell_values.specs.declared.schema.Attribute.{Attribute}
use Rattle.cell_values.specs.declared.schema.Dimension.{Dimension}
use Rattle.cell_values.specs.declared.schema.Kind.{Kind}
use Rattle.cell_values.specs.declared.schema.Kind.TheVariants.{Int64}
use Rattle.cell_values.specs.declared.schema.Schema.{Schema}
use Rattle.array_rows.specs.Rows.{placed}
use Rattle.expr_nulls.specs.Expr.{Expr, literal, attribute_value, dimension_value}
use Rattle.logical_plan.specs.declared.parts.AggFunction.{AggFunction}
use Rattle.logical_plan.specs.declared.parts.Aggregate.{Aggregate}
use Rattle.logical_plan.specs.declared.parts.Applied.{Applied}
use Rattle.logical_plan.specs.Meaning.{Database}

-- no version of any array has cells
abbrev pub nothing : Database
nothing name version = []

abbrev pub number : ℕ → Expr
number n = literal (Int (pos n))

-- the first attribute, and the first and second dimension
abbrev pub v : Expr
v = attribute_value 0

abbrev pub x : Expr
x = dimension_value 0

abbrev pub y : Expr
y = dimension_value 1

abbrev pub int : ℕ → Datum
int n = Int (pos n)

abbrev pub at1 : ℤ → List Datum → Row
at1 i values = placed (i ∷ []) (Full values)

abbrev pub at2 : ℤ → ℤ → List Datum → Row
at2 i j values = placed (i ∷ j ∷ []) (Full values)

abbrev pub broken_at : List ℤ → FaultKind → Broken
broken_at c kind = record { at = record { items = c }; kind = kind }

abbrev pub dim : List ℕ → ℤ → ℤ → ℕ → ℕ → Dimension
dim name lo hi chunk overlap = record { name = name; lo = lo; hi = hi; chunk = chunk; overlap = overlap }

abbrev pub attribute : List ℕ → Kind → Attribute
attribute name kind = record { name = name; kind = kind; nullable = true }

abbrev pub numbers : List ℕ → Attribute
numbers name = attribute name Int64

-- `<v:int64>` along some dimensions
abbrev pub along : List Dimension → Schema
along dims = record { attributes = numbers (codes "v") ∷ []; dimensions = dims }

-- `[i=0:last,chunk,overlap]`
abbrev pub line : ℕ → ℕ → ℕ → List Dimension
line last chunk overlap = dim (codes "i") (pos 0) (pos last) chunk overlap ∷ []

abbrev pub computed : List ℕ → Expr → Applied
computed name value = record { name = name; kind = Int64; value = value }

abbrev pub over : AggFunction → ℕ → List ℕ → Aggregate
over f place name = record { function = f; attribute = place; name = name }
