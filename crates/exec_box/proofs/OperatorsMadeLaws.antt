-- The array that an operator makes.
use Rattle.std.proofs.Common.{◌≡◌, ℕ, ◌≤◌, ◌^◌, List, [], ◌∷◌, length, filter, None, Result, Ok, Err, refl, sym, ap, ◌∙◌, subst}
use Rattle.std.specs.List.{AllByRecursion, AllZip}
use Rattle.std.specs.Prelude.{IfOk}
use Rattle.cell_values.specs.declared.datum.Row.{Row}
use Rattle.cell_values.specs.declared.memory.Memory.{Memory}
use Rattle.cell_values.specs.declared.schema.Dimension.{Dimension}
use Rattle.cell_values.specs.declared.schema.Schema.{Schema}
use Rattle.cell_values.specs.Schemas.{IsValid}
use Rattle.array_rows.specs.Arrays.{AreRowsOf}
use Rattle.array_geom.specs.declared.chunk.Chunk.{Chunk}
use Rattle.array_geom.specs.declared.chunk.ChunkedArray.{ChunkedArray}
use Rattle.array_geom.specs.Geometry.{has_core, frame_lengths, volume}
use Rattle.array_geom.specs.Link.{AreChunksOf, chunk_rows, numbers}
use Rattle.array_parts.specs.Made.{IsMadeBy, IsPlaced}
use Rattle.array_parts.specs.Parts.{IsLocal, holds_cell}
use Rattle.array_parts.specs.Placed.{HasPlaces, HavePlaces}
use Rattle.array_parts.proofs.HeldLemmas.{places_made}
use Rattle.array_parts.proofs.PartLemmas.{all_kept, chunks_are_parts, held_are_chunks, made_are_parts, numbers_passed, rising_passed}
use Rattle.array_parts.specs.Cores.{HasCells, HaveCells}
use Rattle.exec_box.specs.Made.{AreMadeOf, GivesRows, IsMadeOf}

pub made_and_held : (operator : List Row → List Row) (dims : List Dimension) (margins : List ℕ) (old made : List Chunk) (answer : Result (List Chunk) Memory) → AllZip (IsMadeBy operator dims margins) old made
    → IfOk answer (λ kept. kept ≡ filter (holds_cell dims margins) made) → IfOk answer (AreMadeOf operator dims margins old)
made_and_held operator dims margins old made (Err memory) each held = held
made_and_held operator dims margins old made (Ok kept) each held = record { made = made; each = each; held = held }

-- ---- schemas of the same dimensions give chunks the same places

all_places : (a b : Schema) (margins : List ℕ) (chunks : List Chunk) → a.dimensions ≡ b.dimensions → IsValid b → AllByRecursion (HasPlaces a margins) chunks → AllByRecursion (HasPlaces b margins) chunks
all_places a b margins [] e valid h = tt
all_places a b margins (chunk ∷ chunks) e valid h = (
  record {
    framed = record {
      valid = valid;
      core = ap (λ (z : List Dimension). has_core z chunk.at.items) (sym e) ∙ h.0.framed.core;
      each = h.0.framed.each ∙ ap (λ (z : List Dimension). length z) e;
      places = subst (λ (z : List Dimension). volume (frame_lengths z margins) ≤ 2 ^ 48) e h.0.framed.places;
    };
    placed = subst (λ (z : List Dimension). IsPlaced z margins chunk) e h.0.placed;
  },
  all_places a b margins chunks e valid h.1,
)

places_over : (a b : Schema) (margins : List ℕ) (chunks : List Chunk) → a.dimensions ≡ b.dimensions → IsValid b → HavePlaces a margins chunks → HavePlaces b margins chunks
places_over a b margins chunks e valid h = record {
  valid = valid;
  each = h.each ∙ ap (λ (z : List Dimension). length z) e;
  places = subst (λ (z : List Dimension). volume (frame_lengths z margins) ≤ 2 ^ 48) e h.places;
  rising = h.rising;
  sized = subst (λ (z : List Dimension). AllByRecursion (λ k. length k ≡ length z) (numbers chunks)) e h.sized;
  all = all_places a b margins chunks e valid h.all;
}

-- ---- what is made of chunks with cells

module _ (operator : List Row → List Row) (from to : Schema) (margins : List ℕ) (dims : to.dimensions ≡ from.dimensions) where
  rows_made : (old made : List Chunk) → GivesRows operator from to → AllByRecursion (λ chunk. AreRowsOf from (chunk_rows from.dimensions margins chunk)) old
      → AllZip (IsMadeBy operator from.dimensions margins) old made → AllByRecursion (λ chunk. AreRowsOf to (chunk_rows to.dimensions margins chunk)) made
  rows_made [] [] gives h a = tt
  rows_made [] (n ∷ made) gives h a = absurd a
  rows_made (o ∷ old) [] gives h a = absurd a
  rows_made (o ∷ old) (n ∷ made) gives h a = (
    subst (λ (z : List Dimension). AreRowsOf to (chunk_rows z margins n)) (sym dims) (subst (AreRowsOf to) (sym a.0.rows) (gives (chunk_rows from.dimensions margins o) h.0)),
    rows_made old made gives h.1 a.1,
  )

  cells_made : (old new : List Chunk) → IsValid to → GivesRows operator from to → HaveCells from margins old → AreMadeOf operator from.dimensions margins old new → HaveCells to margins new
  cells_made old new valid gives h m =
      let places : HavePlaces from margins m.made = places_made operator from margins old m.made h.placed m.each in
      subst (HaveCells to margins) (sym m.held) (record {
        placed = places_over from to margins (filter (holds_cell from.dimensions margins) m.made) (sym dims) valid (record {
          valid = places.valid;
          each = places.each;
          places = places.places;
          rising = rising_passed (holds_cell from.dimensions margins) m.made places.rising;
          sized = numbers_passed (λ k. length k ≡ length from.dimensions) (holds_cell from.dimensions margins) m.made places.sized;
          all = all_kept (HasPlaces from margins) (holds_cell from.dimensions margins) m.made places.all;
        });
        rows_of = all_kept (λ chunk. AreRowsOf to (chunk_rows to.dimensions margins chunk)) (holds_cell from.dimensions margins) m.made (rows_made old m.made gives h.rows_of m.each);
      })

  chunks_made : (old new : List Chunk) (rows : List Row) → IsLocal operator → length margins ≡ length from.dimensions → AreMadeOf operator from.dimensions margins old new
      → AreChunksOf to.dimensions margins rows old → AreChunksOf to.dimensions margins (operator rows) new
  chunks_made old new rows local n m are =
      let before : AreChunksOf from.dimensions margins rows old = subst (λ (z : List Dimension). AreChunksOf z margins rows old) dims are in
      subst (λ (z : List Dimension). AreChunksOf z margins (operator rows) new) (sym dims)
      (subst (AreChunksOf from.dimensions margins (operator rows)) (sym m.held)
      (held_are_chunks from.dimensions margins (operator rows) m.made
      (made_are_parts operator from.dimensions margins rows old m.made local (chunks_are_parts from.dimensions margins rows old before) m.each) n))

-- ---- arrays

pub made_whole : (operator : List Row → List Row) (schema : Schema) (array : ChunkedArray) (chunks : List Chunk) → HasCells array → IsValid schema → schema.dimensions ≡ array.schema.dimensions → IsLocal operator → array.broken ≡ None
    → AreMadeOf operator array.schema.dimensions array.margins.items array.chunks chunks → IsMadeOf operator schema array (record { schema = schema; margins = array.margins; chunks = chunks; broken = None })
made_whole operator schema array chunks has valid dims local none made = record {
  schema_is = refl;
  margins = refl;
  broken = sym none;
  cells = λ gives whole. cells_made operator array.schema schema array.margins.items dims array.chunks chunks valid gives (has none) made;
  chunks = λ whole rows are. chunks_made operator array.schema schema array.margins.items dims array.chunks chunks rows local (has none).placed.each made are;
}
