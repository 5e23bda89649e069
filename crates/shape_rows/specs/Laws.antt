-- Which cell these operators have at a coordinate.
use Rattle.std.specs.Prelude.{◌≡◌, ℕ, ◌*◌, ◌<◌, pos, ◌+ℤ◌, ◌-ℤ◌, ◌≤ℤ◌, ◌≤◌, ◌^◌, List, ◌∷◌, length, reverse, IfOk}
use Rattle.std.specs.List.{AllZip}
use Rattle.std.specs.Option.{option_or}
use Rattle.cell_values.specs.declared.datum.Row.{Row}
use Rattle.cell_values.specs.declared.schema.Dimension.{Dimension}
use Rattle.cell_values.specs.declared.schema.Attribute.{Attribute}
use Rattle.cell_values.specs.declared.schema.Schema.{Schema}
use Rattle.cell_values.specs.Schemas.{IsValid}
use Rattle.array_rows.specs.Arrays.{AreRows, AreRowsOf}
use Rattle.array_rows.specs.Boxes.{by_pairs, bounds_of, within}
use Rattle.array_rows.specs.Rows.{Coordinate, cell_at}
use Rattle.logical_plan.specs.Faults.{if_whole}
use Rattle.shape_rows.specs.Pulls.{IsPulled}
use Rattle.logical_plan.specs.Shapes.{backwards, blocks_back, mirrored, transpose_rows, reverse_rows, xgrid_rows, merge_rows, concat_rows, step_between, unpack_rows}
use Rattle.logical_plan.specs.ShapeSchemas.{enlarged, length_of, with_high, merge_schema, concat_schema, unpack_schema}

-- a transposed array has at each coordinate the cell that stood at it backwards
abbrev pub TransposeCells : Type 0
TransposeCells = (dims : List Dimension) (rows : List Row) → AreRows dims rows → IsPulled (bounds_of (reverse dims)) backwards rows (transpose_rows rows)

-- a reversed array has at each coordinate the cell that stood opposite
abbrev pub ReverseCells : Type 0
ReverseCells = (dims : List Dimension) (rows : List Row) → AreRows dims rows → IsPulled (bounds_of dims) (mirrored dims) rows (reverse_rows dims rows)

-- sizes of blocks: one of at least 1 for each dimension, and the high bound becomes low + length * size - 1, which has 64 bits
abbrev pub Enlarges : Dimension → ℕ → Type 0
Enlarges d size = (0 < size) × (d.lo ≤ℤ d.hi) × ((enlarged d size).hi ≡ ((d.lo +ℤ pos (length_of d * size)) -ℤ pos 1))

abbrev pub AllEnlarge : List Dimension → List ℕ → Type 0
AllEnlarge = AllZip Enlarges

-- an array whose cells were made blocks has at each place the cell in whose block it lies
abbrev pub XgridCells : Type 0
XgridCells = (dims : List Dimension) (sizes : List ℕ) (rows : List Row) → AllEnlarge dims sizes → AreRows dims rows
    → IsPulled (bounds_of (by_pairs enlarged dims sizes)) (blocks_back dims sizes) rows (xgrid_rows dims sizes rows)

-- ---- two arrays

-- attributes of the same kinds, and dimensions of the same bounds
abbrev pub SameKinds : List Attribute → List Attribute → Type 0
SameKinds = AllZip (λ a b. a.kind ≡ b.kind)

abbrev pub SameBounds : List Dimension → List Dimension → Type 0
SameBounds = AllZip (λ l r. (l.lo ≡ r.lo) × (l.hi ≡ r.hi))

-- bounds that differ in the first dimension alone, whose length can be added
abbrev pub CanFollow : List Dimension → List Dimension → Type 0
CanFollow (l ∷ left) (r ∷ right) = (l.lo ≤ℤ l.hi) × (r.lo ≤ℤ r.hi) × ((with_high l (l.hi +ℤ pos (length_of r))).hi ≡ (l.hi +ℤ pos (length_of r))) × SameBounds left right
CanFollow _ _ = ⊥

-- two arrays of the same bounds and kinds are merged to one
abbrev pub MergesAreArrays : Type 0
MergesAreArrays = (left right : Schema) (l r : List Row) → IsValid (merge_schema left right) → SameKinds left.attributes right.attributes → SameBounds left.dimensions right.dimensions
    → AreRowsOf left l → AreRowsOf right r → AreRowsOf (merge_schema left right) (merge_rows l r)

-- an array behind another one
abbrev pub ConcatsAreArrays : Type 0
ConcatsAreArrays = (left right : Schema) (l r : List Row) → IsValid (concat_schema left right) → SameKinds left.attributes right.attributes → CanFollow left.dimensions right.dimensions
    → AreRowsOf left l → AreRowsOf right r → AreRowsOf (concat_schema left right) (concat_rows (step_between left.dimensions right.dimensions) l r)

-- the cells of an array, numbered, are an array, unless one is in doubt
abbrev pub UnpacksAreArrays : Type 0
UnpacksAreArrays = (name : List ℕ) (source : Schema) (rows : List Row) → IsValid (unpack_schema name source) → AreRowsOf source rows → length rows ≤ 2 ^ 62
    → IfOk (unpack_rows rows) (AreRowsOf (unpack_schema name source))

-- of any number of cells those with a number within the bounds are one
abbrev pub UnpackedPartsAreArrays : Type 0
UnpackedPartsAreArrays = (name : List ℕ) (source : Schema) (rows : List Row) → IsValid (unpack_schema name source) → AreRowsOf source rows
    → IfOk (if_whole (within (bounds_of (unpack_schema name source).dimensions)) (unpack_rows rows)) (AreRowsOf (unpack_schema name source))

-- merged arrays have the left's cell, else the right's
abbrev pub MergeCells : Type 0
MergeCells = (left right : List Row) (c : Coordinate) → cell_at (merge_rows left right) c ≡ option_or (cell_at left c) (cell_at right c)
