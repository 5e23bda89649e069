-- The cells of a chunk's core, and the array of all parts.
use Rattle.std.proofs.Common.{◌≡◌, ℕ, IsTrue, List, [], ◌∷◌, sym, ap, ◌∙◌, subst}
use Rattle.std.specs.List.{All, AllByRecursion}
use Rattle.std.proofs.lemmas.List.Elements.{All-from_recursion}
use Rattle.arrayvec.specs.ArrayVec.{ArrayVec}
use Rattle.cell_values.specs.declared.datum.Row.{Row}
use Rattle.cell_values.specs.declared.schema.Dimension.{Dimension}
use Rattle.cell_values.specs.declared.schema.Schema.{Schema}
use Rattle.cell_values.specs.Schemas.{IsValid}
use Rattle.array_rows.specs.Arrays.{AreRowsOf}
use Rattle.array_rows.specs.Boxes.{is_inside, bounds_of}
use Rattle.array_rows.specs.Rows.{IsRising}
use Rattle.array_rows.proofs.RowSets.{IsRising-rows_where}
use Rattle.array_geom.specs.declared.chunk.Chunk.{Chunk}
use Rattle.array_geom.specs.declared.chunk.ChunkedArray.{ChunkedArray}
use Rattle.array_geom.specs.Geometry.{core}
use Rattle.array_geom.specs.Link.{chunk_rows, core_rows}
use Rattle.array_geom.specs.Inner.Ranges.{AreNear}
use Rattle.array_geom.proofs.NearLemmas.{valid_placed}
use Rattle.array_parts.proofs.PartLemmas.{all_kept}
use Rattle.array_parts.specs.Cores.{HaveCells, cores_of}
use Rattle.area_cells.specs.Whole.{CoresRise}
use Rattle.area_cells.proofs.MergeLaws.{put_all-none}
use Rattle.group_rows.specs.Inner.Keys.{core_of}

pub core_rises : (schema : Schema) (margins : List ℕ) (chunk : Chunk) → HaveCells schema margins (chunk ∷ []) → IsRising (core_of schema.dimensions margins chunk)
core_rises schema margins chunk h = IsRising-rows_where (is_inside (core schema.dimensions chunk.at.items)) (chunk_rows schema.dimensions margins chunk) h.rows_of.0.are_rows.rising

pub one_core : (schema : Schema) (margins : List ℕ) (chunk : Chunk) (chunks : List Chunk) (rows : List Row) → chunks ≡ chunk ∷ [] → HaveCells schema margins (chunk ∷ []) → rows ≡ core_rows schema.dimensions margins chunks → rows ≡ core_of schema.dimensions margins chunk
one_core schema margins chunk chunks rows e h f =
    f ∙ ap (core_rows schema.dimensions margins) e ∙ put_all-none (core_of schema.dimensions margins chunk) (core_rises schema margins chunk h)

pub core_inside : (schema : Schema) (margins : List ℕ) (chunk : Chunk) → HaveCells schema margins (chunk ∷ []) → All (λ row. IsTrue (is_inside (bounds_of schema.dimensions) row.at.items)) (core_of schema.dimensions margins chunk)
core_inside schema margins chunk h =
    All-from_recursion (λ (row : Row). IsTrue (is_inside (bounds_of schema.dimensions) row.at.items)) (core_of schema.dimensions margins chunk)
    (all_kept (λ row. IsTrue (is_inside (bounds_of schema.dimensions) row.at.items)) (λ row. is_inside (core schema.dimensions chunk.at.items) row.at.items) (chunk_rows schema.dimensions margins chunk) h.rows_of.0.are_rows.in_bounds)

pub near_dimensions : (schema : Schema) (dims : List Dimension) → dims ≡ schema.dimensions → IsValid schema → AreNear dims
near_dimensions schema dims same valid = subst AreNear (sym same) (valid_placed schema valid).near

pub rise_in_cores : (schema : Schema) (margins : List ℕ) (chunks : List Chunk) → HaveCells schema margins chunks → CoresRise schema.dimensions margins chunks
rise_in_cores schema margins chunks h = each chunks h.rows_of
  where
    each : (xs : List Chunk) → AllByRecursion (λ chunk. AreRowsOf schema (chunk_rows schema.dimensions margins chunk)) xs → CoresRise schema.dimensions margins xs
    each [] a = tt
    each (chunk ∷ xs) a = (IsRising-rows_where (is_inside (core schema.dimensions chunk.at.items)) (chunk_rows schema.dimensions margins chunk) a.0.are_rows.rising, each xs a.1)

pub alone_cells : (schema : Schema) (margins : ArrayVec ℕ) (chunk : Chunk) (array : ChunkedArray) → array.schema ≡ schema → array.margins ≡ margins → array.chunks ≡ chunk ∷ [] → HaveCells schema margins.items (chunk ∷ []) → HaveCells array.schema array.margins.items array.chunks
alone_cells schema margins chunk array e f g h =
    subst (λ (s : Schema). HaveCells s array.margins.items array.chunks) (sym e)
    (subst (λ (m : ArrayVec ℕ). HaveCells schema m.items array.chunks) (sym f) (subst (HaveCells schema margins.items) (sym g) h))

pub alone_rows : (schema : Schema) (margins : ArrayVec ℕ) (chunk : Chunk) (array : ChunkedArray) (rows : List Row) → array.schema ≡ schema → array.margins ≡ margins → array.chunks ≡ chunk ∷ [] → HaveCells schema margins.items (chunk ∷ []) → rows ≡ cores_of array
    → rows ≡ core_of schema.dimensions margins.items chunk
alone_rows schema margins chunk array rows e f g h r =
    one_core schema margins.items chunk array.chunks rows g h (r ∙ (λ i. core_rows (e i).dimensions (f i).items array.chunks))
