-- Stored chunks, as parts of rows and as they are spelled.
use Rattle.std.proofs.Common.{◌≡◌, ◌<◌, ℕ, suc, true, List, [], ◌∷◌, map, length, Ok, refl, sym, ◌∙◌, ap, arith}
use Rattle.std.specs.List.{AllByRecursion}
use Rattle.cell_values.specs.declared.datum.Cell.{Cell}
use Rattle.cell_values.specs.declared.datum.Row.{Row}
use Rattle.cell_values.specs.declared.schema.Schema.{Schema}
use Rattle.cell_values.specs.Schemas.{IsValid}
use Rattle.arrayvec.specs.ArrayVec.{ArrayVec}
use Rattle.chunk_source.specs.Boxes.{is_inside, within}
use Rattle.chunk_source.specs.Rows.{Coordinate, placed}
use Rattle.chunk_source.specs.Geometry.{ChunkNumber, HasFrame, has_core, frame, frame_low, frame_lengths, volume, overlaps, position_of}
use Rattle.chunk_source.specs.Link.{IsPart, rows_in}
use Rattle.chunk_source.specs.Chunk.{Chunk}
use Rattle.chunk_source.proofs.LawProofs.{place_of_coordinate, coordinate_at_place}
use Rattle.file_items.proofs.BytesLaws.{AreBytes}
use Rattle.chunk_rle.specs.Frames.{frame_of}
use Rattle.chunk_rle.specs.Chunks.{chunk_payload, spelling}
use Rattle.chunk_rle.specs.Stored.{IsStored}
use Rattle.chunk_rle.proofs.ChunkLaws.{chunk_again}
use Rattle.chunk_rle.proofs.StoredLaws.{taken, taken_spelled, stored_to}
use Rattle.file_meaning.specs.Standing.{stored_chunk}
use Rattle.file_meaning.proofs.OneVersion.{within_inside}

-- ---- parts

record AreRead (schema : Schema) (margins : List ℕ) (k : ChunkNumber) (rows : List Row) : Type 0 where
  each : length (map (λ (row : Row). row.cell) rows) ≡ length (map (λ (row : Row). position_of schema.dimensions margins k row.at.items) rows)
  in_frame : AllByRecursion (λ p. p < volume (frame_lengths schema.dimensions margins)) (map (λ (row : Row). position_of schema.dimensions margins k row.at.items) rows)
  again : rows_in (frame_low schema.dimensions margins k) (frame_lengths schema.dimensions margins) (map (λ (row : Row). position_of schema.dimensions margins k row.at.items) rows) (map (λ (row : Row). row.cell) rows) ≡ rows

are_read : (schema : Schema) (margins : List ℕ) (k : ChunkNumber) → HasFrame schema margins k → (rows : List Row) → AllByRecursion (λ row. is_inside (frame schema.dimensions margins k) row.at.items ≡ true) rows → AreRead schema margins k rows
are_read schema margins k framed [] all = record { each = refl; in_frame = tt; again = refl }
are_read schema margins k framed (row ∷ rows) all =
    let first = place_of_coordinate schema margins k row.at.items framed all.0 in
    let later = are_read schema margins k framed rows all.1 in
    record {
      each = ap suc later.each;
      in_frame = (first.0, later.in_frame);
      again = ap (λ (c : Coordinate). placed c row.cell ∷ rows_in (frame_low schema.dimensions margins k) (frame_lengths schema.dimensions margins) (map (λ (r : Row). position_of schema.dimensions margins k r.at.items) rows) (map (λ (r : Row). r.cell) rows)) first.1
          ∙ ap (λ (rs : List Row). row ∷ rs) later.again;
    }

pub stored_part : (schema : Schema) (rows : List Row) (k : ChunkNumber) → HasFrame schema (overlaps schema.dimensions) k → IsPart schema.dimensions (overlaps schema.dimensions) rows (stored_chunk schema rows k)
stored_part schema rows k framed =
    let area = frame schema.dimensions (overlaps schema.dimensions) k in
    let r = are_read schema (overlaps schema.dimensions) k framed (within area rows) (within_inside area rows) in
    record { each = r.each; in_frame = r.in_frame; cells = r.again }

record AreTold (schema : Schema) (margins : List ℕ) (k : ChunkNumber) (positions : List ℕ) (cells : List Cell) : Type 0 where
  places : map (λ (row : Row). position_of schema.dimensions margins k row.at.items) (rows_in (frame_low schema.dimensions margins k) (frame_lengths schema.dimensions margins) positions cells) ≡ positions
  values : map (λ (row : Row). row.cell) (rows_in (frame_low schema.dimensions margins k) (frame_lengths schema.dimensions margins) positions cells) ≡ cells

are_told : (schema : Schema) (margins : List ℕ) (k : ChunkNumber) → HasFrame schema margins k → (positions : List ℕ) (cells : List Cell) → length cells ≡ length positions
    → AllByRecursion (λ p. p < volume (frame_lengths schema.dimensions margins)) positions → AreTold schema margins k positions cells
are_told schema margins k framed [] [] each all = record { places = refl; values = refl }
are_told schema margins k framed [] (c ∷ cells) each all = absurd (omega (arith, each))
are_told schema margins k framed (p ∷ positions) [] each all = absurd (omega (arith, each))
are_told schema margins k framed (p ∷ positions) (c ∷ cells) each all =
    let later = are_told schema margins k framed positions cells (omega (arith, each)) all.1 in
    let first = (coordinate_at_place schema margins k p framed all.0).1 in
    record {
      places = ap (λ (q : ℕ). q ∷ map (λ (row : Row). position_of schema.dimensions margins k row.at.items) (rows_in (frame_low schema.dimensions margins k) (frame_lengths schema.dimensions margins) positions cells)) first
          ∙ ap (λ (qs : List ℕ). p ∷ qs) later.places;
      values = ap (λ (vs : List Cell). c ∷ vs) later.values;
    }

pub part_stored : (schema : Schema) (rows : List Row) (chunk : Chunk) → HasFrame schema (overlaps schema.dimensions) chunk.at.items → IsPart schema.dimensions (overlaps schema.dimensions) rows chunk → chunk ≡ stored_chunk schema rows chunk.at.items
part_stored schema rows chunk framed part =
    let dims = schema.dimensions in
    let told = are_told schema (overlaps dims) chunk.at.items framed chunk.positions chunk.cells part.each part.in_frame in
    let places : chunk.positions ≡ map (λ (row : Row). position_of dims (overlaps dims) chunk.at.items row.at.items) (within (frame dims (overlaps dims) chunk.at.items) rows)
    = sym told.places ∙ ap (map (λ (row : Row). position_of dims (overlaps dims) chunk.at.items row.at.items)) part.cells in
    let values : chunk.cells ≡ map (λ (row : Row). row.cell) (within (frame dims (overlaps dims) chunk.at.items) rows) = sym told.values ∙ ap (map (λ (row : Row). row.cell)) part.cells in
    ap (λ (ps : List ℕ). record { at = chunk.at; positions = ps; cells = chunk.cells }) places
    ∙ ap (λ (cs : List Cell). record { at = chunk.at; positions = map (λ (row : Row). position_of dims (overlaps dims) chunk.at.items row.at.items) (within (frame dims (overlaps dims) chunk.at.items) rows); cells = cs }) values

-- ---- spellings

pub read_is_spelled : (schema : Schema) (at : ArrayVec ℕ) (bytes : List ℕ) (chunk : Chunk) → IsValid schema → has_core schema.dimensions at.items ≡ true → AreBytes bytes
    → chunk_payload (frame_of schema at.items) at schema.attributes bytes ≡ Ok chunk → IsStored schema chunk × (bytes ≡ spelling schema.attributes chunk)
read_is_spelled schema at bytes chunk valid core fits is = (taken schema at bytes chunk valid core fits is, taken_spelled schema at bytes chunk fits is)

pub spelled_is_read : (schema : Schema) (bytes : List ℕ) (chunk : Chunk) → IsStored schema chunk → bytes ≡ spelling schema.attributes chunk → chunk_payload (frame_of schema chunk.at.items) chunk.at schema.attributes bytes ≡ Ok chunk
spelled_is_read schema bytes chunk stored is =
    let places = stored.valid.framed.places in
    ap (chunk_payload (frame_of schema chunk.at.items) chunk.at schema.attributes) is
    ∙ chunk_again (frame_of schema chunk.at.items) schema.attributes chunk (omega (arith, places)) (stored_to schema chunk stored)
