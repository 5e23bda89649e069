-- Chunks beside the cores of their neighbours.
use Rattle.std.proofs.Common.{◌≡◌, ◌<◌, ℕ, true, false, List, [], ◌∷◌, map, length, refl, sym, ◌∙◌, ap, subst, arith}
use Rattle.std.specs.Prelude.{int_le}
use Rattle.std.specs.List.{AllByRecursion}
use Rattle.std.proofs.lemmas.Bool.{and_parts}
use Rattle.cell_values.specs.declared.datum.Cell.{Cell}
use Rattle.cell_values.specs.declared.datum.Row.{Row}
use Rattle.cell_values.specs.declared.schema.Dimension.{Dimension}
use Rattle.cell_values.specs.declared.schema.Schema.{Schema}
use Rattle.cell_values.specs.Schemas.{IsValid}
use Rattle.array_rows.specs.Boxes.{within}
use Rattle.array_geom.specs.declared.chunk.Chunk.{Chunk}
use Rattle.array_geom.specs.Chunks.{IsChunk}
use Rattle.array_geom.specs.Geometry.{ChunkNumber, HasFrame, first_in, has_core, frame, frame_low, frame_lengths, volume, overlaps, position_of}
use Rattle.array_geom.specs.Link.{IsPart, NumbersRise, numbers, rows_in}
use Rattle.array_geom.proofs.LawProofs.{coordinate_at_place}
use Rattle.array_geom.proofs.NearLemmas.{stored_frame}
use Rattle.array_parts.specs.Placed.{HasPlaces, HavePlaces}
use Rattle.array_parts.proofs.PlaceRows.{valid_chunks_have_cells}
use Rattle.chunk_cells.specs.Whole.{CoresRise}
use Rattle.area_cells.proofs.PieceLaws.{rise_in_cores}
use Rattle.chunk_rle.specs.Stored.{IsStored}
use Rattle.backup_format.specs.Pieces.{stored_chunk}

record AreSplit (schema : Schema) (margins : List ℕ) (k : ChunkNumber) (positions : List ℕ) (cells : List Cell) : Type 0 where
  places : map (λ (row : Row). position_of schema.dimensions margins k row.at.items) (rows_in (frame_low schema.dimensions margins k) (frame_lengths schema.dimensions margins) positions cells) ≡ positions
  values : map (λ (row : Row). row.cell) (rows_in (frame_low schema.dimensions margins k) (frame_lengths schema.dimensions margins) positions cells) ≡ cells

are_split : (schema : Schema) (margins : List ℕ) (k : ChunkNumber) → HasFrame schema margins k → (positions : List ℕ) (cells : List Cell) → length cells ≡ length positions
    → AllByRecursion (λ p. p < volume (frame_lengths schema.dimensions margins)) positions → AreSplit schema margins k positions cells
are_split schema margins k framed [] [] each all = record { places = refl; values = refl }
are_split schema margins k framed [] (c ∷ cells) each all = absurd (omega (arith, each))
are_split schema margins k framed (p ∷ positions) [] each all = absurd (omega (arith, each))
are_split schema margins k framed (p ∷ positions) (c ∷ cells) each all =
    let later = are_split schema margins k framed positions cells (omega (arith, each)) all.1 in
    let first = (coordinate_at_place schema margins k p framed all.0).1 in
    record {
      places = ap (λ (q : ℕ). q ∷ map (λ (row : Row). position_of schema.dimensions margins k row.at.items) (rows_in (frame_low schema.dimensions margins k) (frame_lengths schema.dimensions margins) positions cells)) first
          ∙ ap (λ (qs : List ℕ). p ∷ qs) later.places;
      values = ap (λ (vs : List Cell). c ∷ vs) later.values;
    }

-- a part of rows is their stored chunk
pub part_stored : (schema : Schema) (rows : List Row) (chunk : Chunk) → HasFrame schema (overlaps schema.dimensions) chunk.at.items → IsPart schema.dimensions (overlaps schema.dimensions) rows chunk → chunk ≡ stored_chunk schema rows chunk.at.items
part_stored schema rows chunk framed part =
    let dims = schema.dimensions in
    let told = are_split schema (overlaps dims) chunk.at.items framed chunk.positions chunk.cells part.each part.in_frame in
    let places : chunk.positions ≡ map (λ (row : Row). position_of dims (overlaps dims) chunk.at.items row.at.items) (within (frame dims (overlaps dims) chunk.at.items) rows)
    = sym told.places ∙ ap (map (λ (row : Row). position_of dims (overlaps dims) chunk.at.items row.at.items)) part.cells in
    let values : chunk.cells ≡ map (λ (row : Row). row.cell) (within (frame dims (overlaps dims) chunk.at.items) rows) = sym told.values ∙ ap (map (λ (row : Row). row.cell)) part.cells in
    ap (λ (ps : List ℕ). record { at = chunk.at; positions = ps; cells = chunk.cells }) places
    ∙ ap (λ (cs : List Cell). record { at = chunk.at; positions = map (λ (row : Row). position_of dims (overlaps dims) chunk.at.items row.at.items) (within (frame dims (overlaps dims) chunk.at.items) rows); cells = cs }) values

-- ---- stored chunks have places

never : true ≡ false → ⊥
never e = cc

pub core_long : (dims : List Dimension) (k : ChunkNumber) → has_core dims k ≡ true → length k ≡ length dims
core_long [] [] core = refl
core_long [] (n ∷ k) core = absurd (never (sym core))
core_long (d ∷ dims) [] core = absurd (never (sym core))
core_long (d ∷ dims) (n ∷ k) core = let rest = core_long dims k (and_parts (int_le (first_in d n) d.hi) (has_core dims k) core).1 in omega (arith, rest)

all_sized : (schema : Schema) (chunks : List Chunk) → AllByRecursion (IsStored schema) chunks → AllByRecursion (λ k. length k ≡ length schema.dimensions) (numbers chunks)
all_sized schema [] all = tt
all_sized schema (chunk ∷ chunks) all = (core_long schema.dimensions chunk.at.items all.0.valid.framed.core, all_sized schema chunks all.1)

places_of : (schema : Schema) (chunks : List Chunk) → AllByRecursion (IsStored schema) chunks → AllByRecursion (HasPlaces schema (overlaps schema.dimensions)) chunks
places_of schema [] all = tt
places_of schema (chunk ∷ chunks) all =
    (record { framed = all.0.valid.framed; placed = record { each = all.0.valid.each; in_frame = all.0.valid.in_frame } }, places_of schema chunks all.1)

valid_chunks : (schema : Schema) (chunks : List Chunk) → AllByRecursion (IsStored schema) chunks → AllByRecursion (IsChunk schema (overlaps schema.dimensions)) chunks
valid_chunks schema [] all = tt
valid_chunks schema (chunk ∷ chunks) all = (all.0.valid, valid_chunks schema chunks all.1)

pub framed : (schema : Schema) (margins k : List ℕ) → margins ≡ overlaps schema.dimensions → IsValid schema → has_core schema.dimensions k ≡ true → HasFrame schema margins k
framed schema margins k are valid core = subst (λ (ms : List ℕ). HasFrame schema ms k) (sym are) (stored_frame schema k valid core)

own_places : (schema : Schema) (k : ChunkNumber) (chunks : List Chunk) → IsValid schema → has_core schema.dimensions k ≡ true → NumbersRise (numbers chunks) → AllByRecursion (IsStored schema) chunks → HavePlaces schema (overlaps schema.dimensions) chunks
own_places schema k chunks valid core rise all =
    let f = stored_frame schema k valid core in
    record { valid = valid; each = f.each; places = f.places; rising = rise; sized = all_sized schema chunks all; all = places_of schema chunks all }

pub have_places : (schema : Schema) (margins k : List ℕ) (chunks : List Chunk) → margins ≡ overlaps schema.dimensions → IsValid schema → has_core schema.dimensions k ≡ true → NumbersRise (numbers chunks) → AllByRecursion (IsStored schema) chunks → HavePlaces schema margins chunks
have_places schema margins k chunks are valid core rise all = subst (λ (ms : List ℕ). HavePlaces schema ms chunks) (sym are) (own_places schema k chunks valid core rise all)

pub cores_rise : (schema : Schema) (margins k : List ℕ) (chunks : List Chunk) → margins ≡ overlaps schema.dimensions → IsValid schema → has_core schema.dimensions k ≡ true → NumbersRise (numbers chunks) → AllByRecursion (IsStored schema) chunks → CoresRise schema.dimensions margins chunks
cores_rise schema margins k chunks are valid core rise all =
    subst (λ (ms : List ℕ). CoresRise schema.dimensions ms chunks) (sym are)
    (rise_in_cores schema (overlaps schema.dimensions) chunks (valid_chunks_have_cells schema (overlaps schema.dimensions) chunks (own_places schema k chunks valid core rise all) (valid_chunks schema chunks all)))
