-- An array of four places with two cells, in chunks of one, two or four places.
use Rattle.std.specs.Prelude.{ℕ, pos, true, List, [], ◌∷◌, Ok, codes}
use Rattle.cell_values.specs.declared.datum.Cell.TheVariants.{Full}
use Rattle.cell_values.specs.declared.datum.Datum.TheVariants.{Int}
use Rattle.cell_values.specs.declared.datum.Row.{Row}
use Rattle.cell_values.specs.declared.datum.CompareOp.TheVariants.{More}
use Rattle.cell_values.specs.declared.schema.Kind.TheVariants.{Int64}
use Rattle.cell_values.specs.declared.schema.Attribute.{Attribute}
use Rattle.cell_values.specs.declared.schema.Dimension.{Dimension}
use Rattle.cell_values.specs.declared.schema.Schema.{Schema}
use Rattle.array_rows.specs.Arrays.{Meant}
use Rattle.array_rows.specs.Rows.{placed}
use Rattle.expr_nulls.specs.Expr.{attribute_value, literal, relation}
use Rattle.logical_plan.specs.declared.parts.Leaf.{Leaf}
use Rattle.logical_plan.specs.Query.{Query, filtered, scanned}
use Rattle.test_sources.specs.declared.layout.Layout.{Layout}
use Rattle.test_sources.specs.declared.layout.Layout.TheVariants.{Singles, Pairs, Whole}

abbrev pub length_in : Layout → ℕ
length_in Singles = 1
length_in Pairs = 2
length_in Whole = 4

abbrev pub overlap_in : Layout → ℕ
overlap_in Singles = 0
overlap_in Pairs = 1
overlap_in Whole = 0

abbrev pub attributes : List Attribute
attributes = record { name = codes "v"; kind = Int64; nullable = true } ∷ []

abbrev pub dimensions : Layout → List Dimension
dimensions layout = record { name = codes "i"; lo = pos 0; hi = pos 3; chunk = length_in layout; overlap = overlap_in layout } ∷ []

-- <v:int64>[i=0:3,1,0], <v:int64>[i=0:3,2,1] or <v:int64>[i=0:3,4,0]
abbrev pub schema : Layout → Schema
schema layout = record { attributes = attributes; dimensions = dimensions layout }

abbrev pub leaf : Layout → Leaf
leaf layout = record { name = codes "a"; version = 1; schema = schema layout }

abbrev pub row_of : ℕ → ℕ → Row
row_of i value = placed (pos i ∷ []) (Full (Int (pos value) ∷ []))

abbrev pub rows : List Row
rows = row_of 1 5 ∷ row_of 2 7 ∷ []

abbrev pub meant : Layout → Meant
meant layout = record { schema = schema layout; rows = Ok rows }

-- `filter(a, v>5)`
abbrev pub above_five : Layout → Query
above_five layout = filtered (scanned (leaf layout)) (relation More (attribute_value 0) (literal (Int (pos 5))))
