-- The chunks that are written of a version.
use Rattle.std.specs.Prelude.{◌≡◌, Bool, true, false, ◌&&◌, List, length, IsTrue}
use Rattle.std.specs.List.{AllByRecursion}
use Rattle.cell_values.specs.declared.datum.Row.{Row}
use Rattle.cell_values.specs.declared.schema.Schema.{Schema}
use Rattle.array_rows.specs.Arrays.{AreRowsOf}
use Rattle.array_rows.specs.Boxes.{within}
use Rattle.array_rows.specs.Rows.{put_all}
use Rattle.array_geom.specs.declared.chunk.Changed.{Changed}
use Rattle.array_geom.specs.Geometry.{ChunkNumber, frame, has_core, overlaps}
use Rattle.array_geom.specs.Link.{IsPart, has_cell, is_listed, numbers}
use Rattle.commit_pages.specs.Lengths.{meets}
use Rattle.commit_pages.specs.Changes.{AreValid, IsOf}

-- the chunks of a version with these rows that a test chooses
pub record Writes (schema : Schema) (whole : Bool) (rows : List Row) (chosen : ChunkNumber → Bool) (changed : Changed) : Type 0 where
  pub is_of : IsOf schema whole changed
  pub valid : AreValid changed
  pub rows_of : AreRowsOf schema rows
  pub listed : (k : ChunkNumber) → length k ≡ length schema.dimensions → is_listed k (numbers changed.chunks) ≡ chosen k
  pub parts : AllByRecursion (IsPart schema.dimensions (overlaps schema.dimensions) rows) changed.chunks

-- all chunks
abbrev pub IsStoreOf : Schema → List Row → Changed → Type 0
IsStoreOf schema rows = Writes schema true rows (has_cell schema.dimensions rows)

-- rows put into others: the chunks whose frame holds a row that is put in
abbrev pub IsInsertOf : Schema → List Row → List Row → Changed → Type 0
IsInsertOf schema input old =
    Writes schema false (put_all input old) (λ k. has_cell schema.dimensions (put_all input old) k && meets schema.dimensions input k)

-- where rows are put in these ones serve as well as all: each chunk whose frame holds a row that is put in has the same in its frame
pub record Serves (schema : Schema) (input all these : List Row) : Type 0 where
  pub rows_of : AreRowsOf schema all
  pub alike : (k : ChunkNumber) → IsTrue (has_core schema.dimensions k) → IsTrue (meets schema.dimensions input k)
      → within (frame schema.dimensions (overlaps schema.dimensions) k) these ≡ within (frame schema.dimensions (overlaps schema.dimensions) k) all
