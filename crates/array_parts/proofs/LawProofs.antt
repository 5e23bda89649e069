-- The laws, as they are stated.
use Rattle.std.proofs.Common.{◌≡◌, ℕ, ◌≤◌, ◌^◌, true, false, Bool, cond, List, [], ◌∷◌, length, Ok, Err, Result, refl, sym, ap, ◌∙◌}
use Rattle.std.specs.List.{AllByRecursion}
use Rattle.std.proofs.lemmas.Bool.{false≢true}
use Rattle.std.proofs.lemmas.Option.{none-some}
use Rattle.cell_values.specs.declared.datum.Broken.{Broken}
use Rattle.cell_values.specs.declared.datum.Row.{Row}
use Rattle.cell_values.specs.declared.schema.Bounds.{Bounds}
use Rattle.cell_values.specs.declared.schema.Dimension.{Dimension}
use Rattle.cell_values.specs.declared.schema.Schema.{Schema}
use Rattle.cell_values.specs.Schemas.{IsValid}
use Rattle.array_geom.specs.Arrays.{AreRows}
use Rattle.array_geom.specs.Boxes.{is_inside, within, bounds_of}
use Rattle.array_geom.specs.Rows.{Coordinate}
use Rattle.array_geom.specs.declared.chunk.Chunk.{Chunk}
use Rattle.array_geom.specs.declared.chunk.ChunkedArray.{ChunkedArray}
use Rattle.array_geom.specs.Geometry.{ChunkNumber, core, has_core, frame_lengths, volume}
use Rattle.array_geom.specs.Link.{IsPart, numbers, is_listed, is_not_empty, has_cell, HoldsRows, HoldsResult}
use Rattle.array_geom.specs.Inner.Ranges.{AreNear}
use Rattle.array_geom.proofs.CoreLaws.{core_of, chunk_has_core}
use Rattle.array_geom.proofs.NearLemmas.{valid_placed}
use Rattle.array_parts.specs.PartsLaws.{ArraysAreSound}
use Rattle.array_parts.specs.Placed.{HasPlaces, HavePlaces}
use Rattle.array_parts.proofs.PartLemmas.{each_listed}

-- a coordinate of an area that holds a row
pub record IsHeld (area bounds : Bounds) : Type 0 where
  at : Coordinate
  inside : is_inside area at ≡ true
  bound : is_inside bounds at ≡ true

held_row : (area bounds : Bounds) (rows : List Row) → AllByRecursion (λ row. is_inside bounds row.at.items ≡ true) rows → is_not_empty (within area rows) ≡ true → IsHeld area bounds
held_row area bounds [] a e = absurd (false≢true e)
held_row area bounds (row ∷ rows) a e = cases (is_inside area row.at.items) refl e (held_row area bounds rows a.1)
  where
    cases : (t : Bool) → is_inside area row.at.items ≡ t → is_not_empty (cond t (row ∷ within area rows) (within area rows)) ≡ true → (is_not_empty (within area rows) ≡ true → IsHeld area bounds) → IsHeld area bounds
    cases true f e ih = record { at = row.at.items; inside = f; bound = a.0 }
    cases false f e ih = ih e

-- a core that holds a row is one of the array's
core_there : (dims : List Dimension) (rows : List Row) (k : ChunkNumber) → AreNear dims → AreRows dims rows → length k ≡ length dims → has_cell dims rows k ≡ true → has_core dims k ≡ true
core_there dims rows k near are l e =
    let h = held_row (core dims k) (bounds_of dims) rows are.in_bounds e in
    ap (has_core dims) (core_of dims k h.at near l h.inside) ∙ chunk_has_core dims h.at h.bound

all_there : (dims : List Dimension) (rows : List Row) (all ks : List ChunkNumber) → AreNear dims → AreRows dims rows
    → ((k : ChunkNumber) → length k ≡ length dims → is_listed k all ≡ has_cell dims rows k)
    → AllByRecursion (λ k. length k ≡ length dims) ks → AllByRecursion (λ k. is_listed k all ≡ true) ks → AllByRecursion (λ k. has_core dims k ≡ true) ks
all_there dims rows all [] near are h l i = tt
all_there dims rows all (k ∷ ks) near are h l i = (core_there dims rows k near are l.0 (sym (h k l.0) ∙ i.0), all_there dims rows all ks near are h l.1 i.1)

placed : (schema : Schema) (margins : List ℕ) (rows : List Row) (chunks : List Chunk) → IsValid schema → length margins ≡ length schema.dimensions → volume (frame_lengths schema.dimensions margins) ≤ 2 ^ 48
    → AllByRecursion (λ k. has_core schema.dimensions k ≡ true) (numbers chunks) → AllByRecursion (IsPart schema.dimensions margins rows) chunks → AllByRecursion (HasPlaces schema margins) chunks
placed schema margins rows [] v n p c a = tt
placed schema margins rows (chunk ∷ chunks) v n p c a =
    (record { framed = record { valid = v; core = c.0; each = n; places = p }; placed = record { each = a.0.each; in_frame = a.0.in_frame } }, placed schema margins rows chunks v n p c.1 a.1)

pub held_rows_placed : (schema : Schema) (array : ChunkedArray) (rows : List Row) → HoldsRows schema array rows → HavePlaces schema array.margins.items array.chunks
held_rows_placed schema array rows h =
    let near = (valid_placed schema h.rows_of.valid).near in
    let there = all_there schema.dimensions rows (numbers array.chunks) (numbers array.chunks) near h.rows_of.are_rows h.chunks.listed h.chunks.sized (each_listed (numbers array.chunks)) in
    record {
      valid = h.rows_of.valid;
      each = h.each;
      places = h.places;
      rising = h.chunks.in_order;
      sized = h.chunks.sized;
      all = placed schema array.margins.items rows array.chunks h.rows_of.valid h.each h.places there h.chunks.parts;
    }

pub arrays_are_sound : ArraysAreSound
arrays_are_sound array meant is whole = cases meant.rows is.cells
  where
    cases : (r : Result (List Row) Broken) → HoldsResult meant.schema array r → HavePlaces array.schema array.margins.items array.chunks
    cases (Ok rows) h = rw is.schema (held_rows_placed meant.schema array rows h)
    cases (Err broken) h = absurd (none-some broken (sym whole ∙ h))
