-- A core that holds a cell, by the chunk's positions.
use Rattle.std.proofs.Common.{◌≡◌, ℕ, ℤ, Bool, true, false, cond, ◌||◌, List, [], ◌∷◌, ◌++◌, length, filter, Result, Ok, Err, refl, sym, ap, ◌∙◌, subst, arith}
use Rattle.std.specs.Prelude.{IfOk}
use Rattle.std.specs.List.{list_any, AllByRecursion, AllZip}
use Rattle.std.proofs.lemmas.List.{append-nil}
use Rattle.cell_values.specs.declared.memory.Memory.{Memory}
use Rattle.cell_values.specs.declared.datum.Row.{Row}
use Rattle.cell_values.specs.declared.schema.Schema.{Schema}
use Rattle.cell_values.specs.declared.datum.Cell.{Cell}
use Rattle.cell_values.specs.declared.schema.Bounds.{Bounds}
use Rattle.cell_values.specs.declared.schema.Dimension.{Dimension}
use Rattle.array_geom.specs.Boxes.{is_inside, within}
use Rattle.array_geom.specs.Rows.{placed}
use Rattle.array_geom.specs.declared.chunk.Chunk.{Chunk}
use Rattle.array_geom.specs.Geometry.{HasFrame, coordinate_in, core, frame_low, frame_lengths}
use Rattle.array_geom.specs.Link.{rows_in, is_not_empty, AreChunksOf, NumbersRise}
use Rattle.array_parts.specs.Made.{IsMadeBy}
use Rattle.array_parts.specs.Parts.{AreParts, holds_cell}
use Rattle.array_parts.specs.Placed.{HasPlaces, HavePlaces}
use Rattle.array_parts.proofs.PartLemmas.{all_kept, held_are_chunks, numbers_passed, rising_passed, same_numbers}

held_in : (area : Bounds) (low : List ℤ) (lengths positions : List ℕ) (cells : List Cell) → length cells ≡ length positions
    → list_any (λ p. is_inside area (coordinate_in low lengths p)) positions ≡ is_not_empty (within area (rows_in low lengths positions cells))
held_in area low lengths [] cells e = refl
held_in area low lengths (p ∷ positions) [] e = absurd (omega arith)
held_in area low lengths (p ∷ positions) (cell ∷ cells) e =
    ap (λ z. is_inside area (coordinate_in low lengths p) || z) (held_in area low lengths positions cells (omega arith))
    ∙ cases (is_inside area (coordinate_in low lengths p))
  where
    cases : (t : Bool) → (t || is_not_empty (within area (rows_in low lengths positions cells))) ≡ is_not_empty (cond t (placed (coordinate_in low lengths p) cell ∷ within area (rows_in low lengths positions cells)) (within area (rows_in low lengths positions cells)))
    cases true = refl
    cases false = refl

pub held_by_places : (dims : List Dimension) (margins : List ℕ) (chunk : Chunk) → length chunk.cells ≡ length chunk.positions
    → list_any (λ p. is_inside (core dims chunk.at.items) (coordinate_in (frame_low dims margins chunk.at.items) (frame_lengths dims margins) p)) chunk.positions ≡ holds_cell dims margins chunk
held_by_places dims margins chunk e = held_in (core dims chunk.at.items) (frame_low dims margins chunk.at.items) (frame_lengths dims margins) chunk.positions chunk.cells e

pub held_at : (dims : List Dimension) (margins : List ℕ) (chunk : Chunk) (area : Bounds) (low : List ℤ) (lengths positions : List ℕ) (answer : Bool)
    → area ≡ core dims chunk.at.items → low ≡ frame_low dims margins chunk.at.items → lengths ≡ frame_lengths dims margins → positions ≡ chunk.positions → length chunk.cells ≡ length chunk.positions
    → answer ≡ list_any (λ p. is_inside area (coordinate_in low lengths p)) positions → answer ≡ holds_cell dims margins chunk
held_at dims margins chunk area low lengths positions answer a l n p e h =
    h ∙ (λ i. list_any (λ q. is_inside (a i) (coordinate_in (l i) (n i) q)) (p i)) ∙ held_by_places dims margins chunk e

-- ---- what is kept

pub places_kept : (schema : Schema) (margins : List ℕ) (chunks : List Chunk) (answer : Result (List Chunk) Memory) → HavePlaces schema margins chunks
    → IfOk answer (λ kept. kept ≡ filter (holds_cell schema.dimensions margins) chunks) → IfOk answer (HavePlaces schema margins)
places_kept schema margins chunks (Err e) h k = tt
places_kept schema margins chunks (Ok kept) h k = subst (HavePlaces schema margins) (sym k) (record {
  valid = h.valid;
  each = h.each;
  places = h.places;
  rising = rising_passed (holds_cell schema.dimensions margins) chunks h.rising;
  sized = numbers_passed (λ k. length k ≡ length schema.dimensions) (holds_cell schema.dimensions margins) chunks h.sized;
  all = all_kept (HasPlaces schema margins) (holds_cell schema.dimensions margins) chunks h.all;
})

pub parts_kept : (schema : Schema) (margins : List ℕ) (chunks : List Chunk) (answer : Result (List Chunk) Memory) (rows : List Row) → length margins ≡ length schema.dimensions
    → IfOk answer (λ kept. kept ≡ filter (holds_cell schema.dimensions margins) chunks) → AreParts schema.dimensions margins rows chunks → IfOk answer (AreChunksOf schema.dimensions margins rows)
parts_kept schema margins chunks (Err e) rows n k are = tt
parts_kept schema margins chunks (Ok kept) rows n k are = subst (AreChunksOf schema.dimensions margins rows) (sym k) (held_are_chunks schema.dimensions margins rows chunks are n)

-- ---- what is made

pub ended : (R : Chunk → Chunk → Type 0) (chunks made items : List Chunk) → items ≡ [] → ((rest : List Chunk) → AllZip R items rest → AllZip R chunks (made ++ rest)) → AllZip R chunks made
ended R chunks made items e f = subst (AllZip R chunks) (append-nil made) (f [] (subst (λ (z : List Chunk). AllZip R z []) (sym e) tt))

all_made : (operator : List Row → List Row) (schema : Schema) (margins : List ℕ) (old new : List Chunk) → AllByRecursion (HasPlaces schema margins) old → AllZip (IsMadeBy operator schema.dimensions margins) old new → AllByRecursion (HasPlaces schema margins) new
all_made operator schema margins [] [] h a = tt
all_made operator schema margins [] (n ∷ new) h a = absurd a
all_made operator schema margins (o ∷ old) [] h a = absurd a
all_made operator schema margins (o ∷ old) (n ∷ new) h a =
    (record { framed = subst (λ k. HasFrame schema margins k.items) (sym a.0.number) h.0.framed; placed = a.0.placed }, all_made operator schema margins old new h.1 a.1)

pub places_made : (operator : List Row → List Row) (schema : Schema) (margins : List ℕ) (old new : List Chunk) → HavePlaces schema margins old → AllZip (IsMadeBy operator schema.dimensions margins) old new → HavePlaces schema margins new
places_made operator schema margins old new h a =
    let same = same_numbers operator schema.dimensions margins old new a in
    record {
      valid = h.valid;
      each = h.each;
      places = h.places;
      rising = subst NumbersRise (sym same) h.rising;
      sized = subst (AllByRecursion (λ k. length k ≡ length schema.dimensions)) (sym same) h.sized;
      all = all_made operator schema margins old new h.all a;
    }
