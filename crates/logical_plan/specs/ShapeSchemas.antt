-- The schemas of what these operators make.
use Rattle.std.specs.Prelude.{ℕ, ◌+◌, ℤ, pos, ◌+ℤ◌, ◌-ℤ◌, unsigned_abs, false, ◌||◌, List, [], ◌∷◌, ◌++◌, map, reverse}
use Rattle.std.specs.Int.{w64, saturate_signed}
use Rattle.cell_values.specs.declared.schema.Attribute.{Attribute}
use Rattle.cell_values.specs.declared.schema.Dimension.{Dimension}
use Rattle.cell_values.specs.declared.schema.Kind.TheVariants.{Int64}
use Rattle.cell_values.specs.declared.schema.Schema.{Schema}
use Rattle.cell_values.specs.Schemas.{greatest_bound}
use Rattle.array_rows.specs.Boxes.{by_pairs}
use Rattle.logical_plan.specs.Shapes.{last_place}

-- the dimensions backwards
abbrev pub transpose_schema : Schema → Schema
transpose_schema source = record { attributes = source.attributes; dimensions = reverse source.dimensions }

-- ---- unpack

-- `NAME=0:*,1000,0`
abbrev pub counting : List ℕ → Dimension
counting name = record { name = name; lo = pos 0; hi = pos greatest_bound; chunk = 1000; overlap = 0 }

-- a dimension as an attribute that is never null
abbrev pub numbers_of : Dimension → Attribute
numbers_of d = record { name = d.name; kind = Int64; nullable = false }

abbrev pub unpack_schema : List ℕ → Schema → Schema
unpack_schema name source = record { attributes = map numbers_of source.dimensions ++ source.attributes; dimensions = counting name ∷ [] }

-- ---- xgrid

abbrev pub length_of : Dimension → ℕ
length_of d = unsigned_abs (d.hi -ℤ d.lo) + 1

-- with another high bound. Beyond 64 bits, where no valid schema comes, it stays at the limit
abbrev pub with_high : Dimension → ℤ → Dimension
with_high d high = record { name = d.name; lo = d.lo; hi = saturate_signed w64 high; chunk = d.chunk; overlap = d.overlap }

-- a block of places for each place: up to the last place of the last one
abbrev pub enlarged : Dimension → ℕ → Dimension
enlarged d size = with_high d (last_place d size d.hi)

abbrev pub xgrid_schema : List ℕ → Schema → Schema
xgrid_schema sizes source = record { attributes = source.attributes; dimensions = by_pairs enlarged source.dimensions sizes }

-- ---- merge and concat

-- the left's name; nullable where either is
abbrev pub either_of : Attribute → Attribute → Attribute
either_of left right = record { name = left.name; kind = left.kind; nullable = left.nullable || right.nullable }

abbrev pub merge_schema : Schema → Schema → Schema
merge_schema left right = record { attributes = by_pairs either_of left.attributes right.attributes; dimensions = left.dimensions }

-- the first dimension with the length of another one added
abbrev pub lengthened : List Dimension → List Dimension → List Dimension
lengthened (l ∷ left) (r ∷ right) = with_high l (l.hi +ℤ pos (length_of r)) ∷ left
lengthened left _ = left

abbrev pub concat_schema : Schema → Schema → Schema
concat_schema left right = record { attributes = by_pairs either_of left.attributes right.attributes; dimensions = lengthened left.dimensions right.dimensions }
