-- What an insert needs of the version that its cells are put into.
use Rattle.std.specs.Prelude.{◌≡◌, Bool, false, List, length, IsTrue}
use Rattle.cell_values.specs.declared.datum.Row.{Row}
use Rattle.cell_values.specs.declared.schema.Dimension.{Dimension}
use Rattle.cell_values.specs.declared.schema.Schema.{Schema}
use Rattle.array_rows.specs.Arrays.{AreRowsOf}
use Rattle.array_rows.specs.Boxes.{within}
use Rattle.array_rows.specs.Rows.{IsRising, put_all}
use Rattle.array_geom.specs.Geometry.{ChunkNumber, frame, overlaps}
use Rattle.array_geom.specs.Link.{is_not_empty}
use Rattle.plan_needs.specs.Wanted.{HaveAlike}

-- a chunk whose frame holds a cell that is put in
abbrev pub is_touched : List Dimension → List Row → ChunkNumber → Bool
is_touched dims new k = is_not_empty (within (frame dims (overlaps dims) k) new)

-- two versions have the same chunks of those whose core meets the frame of such a chunk, with the same cells in their frames
abbrev pub AreAlikeTargets : List Dimension → List Row → List Row → List Row → Type 0
AreAlikeTargets dims new a b =
    (k : ChunkNumber) → length k ≡ length dims → IsTrue (is_touched dims new k) → HaveAlike dims (frame dims (overlaps dims) k) a b

-- then each such chunk becomes the same of both
abbrev pub TargetNeedsAreSufficient : Type 0
TargetNeedsAreSufficient =
    (schema : Schema) (new a b : List Row) → AreRowsOf schema a → AreRowsOf schema b → AreAlikeTargets schema.dimensions new a b
    → (k : ChunkNumber) → length k ≡ length schema.dimensions → IsTrue (is_touched schema.dimensions new k)
    → within (frame schema.dimensions (overlaps schema.dimensions) k) (put_all new a)
    ≡ within (frame schema.dimensions (overlaps schema.dimensions) k) (put_all new b)

-- any other chunk stays as it is
abbrev pub OtherChunksStay : Type 0
OtherChunksStay =
    (dims : List Dimension) (new old : List Row) → IsRising old → (k : ChunkNumber) → is_touched dims new k ≡ false
    → within (frame dims (overlaps dims) k) (put_all new old) ≡ within (frame dims (overlaps dims) k) old
