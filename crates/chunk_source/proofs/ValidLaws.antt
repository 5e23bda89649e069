-- Chunks of arrays that hold rows.
use Rattle.std.proofs.Common.{◌≡◌, ℕ, ◌+◌, ◌*◌, ◌/◌, ◌%◌, ◌<◌, ℤ, pos, ◌+ℤ◌, ◌<ℤ◌, true, List, [], ◌∷◌, length, refl, sym, ap, ◌∙◌, subst, arith}
use Rattle.std.proofs.lemmas.Int.{ints}
use Rattle.std.proofs.lemmas.Cmp.{int_ranked}
use Rattle.std.specs.List.{AllByRecursion}
use Rattle.std.specs.Ordering.{int_cmp, ordering_then}
use Rattle.std.specs.declared.cmp.Ordering.{Ordering}
use Rattle.std.specs.declared.cmp.Ordering.TheVariants.{Less, Equal, Greater}
use Rattle.cell_values.specs.declared.datum.Cell.{Cell}
use Rattle.cell_values.specs.declared.datum.Row.{Row}
use Rattle.cell_values.specs.declared.schema.Schema.{Schema}
use Rattle.cell_values.specs.Cells.{IsCellOf}
use Rattle.array_geom.specs.Arrays.{AreRowsOf}
use Rattle.array_geom.specs.Boxes.{is_inside, bounds_of, within}
use Rattle.array_geom.specs.Rows.{Coordinate, row_major, IsRising}
use Rattle.array_geom.proofs.RowSets.{IsRising-rows_where}
use Rattle.array_geom.specs.declared.chunk.Chunk.{Chunk}
use Rattle.array_geom.specs.Chunks.{AreRising, IsChunk}
use Rattle.array_geom.specs.Geometry.{core, frame, frame_low, frame_lengths, volume, coordinate_in, coordinate_at}
use Rattle.array_geom.specs.Link.{rows_in, chunk_rows, IsPart, numbers, is_listed, is_not_empty, has_cell}
use Rattle.array_geom.specs.Inner.Ranges.{AreLengths}
use Rattle.array_geom.proofs.CoreLaws.{core_in_frame}
use Rattle.array_geom.proofs.LinkLaws.{within-within}
use Rattle.array_geom.proofs.NearLemmas.{valid_placed, some_places}
use Rattle.array_geom.proofs.PlaceLaws.{some}
use Rattle.array_parts.specs.Parts.{holds_cell}
use Rattle.array_parts.specs.Placed.{HasPlaces}
use Rattle.array_parts.proofs.HeldLemmas.{held_by_places}
use Rattle.array_parts.proofs.LawProofs.{held_rows_placed}
use Rattle.array_parts.proofs.PartLemmas.{all_kept, each_listed}
use Rattle.logical_plan.specs.Typing.{is_sound, AreSound}
use Rattle.chunk_source.specs.Laws.{ChunksAreValid, HasSoundCells, SoundRowsHaveSoundChunks}

-- ---- the order of places

whole_again : (p v : ℕ) → 0 < v → p / v * v + p % v ≡ p
whole_again p v h = grind arith

later_row : (p q v : ℕ) → 0 < v → p / v < q / v → p < q
later_row p q v h r =
    let a = whole_again p v h in
    let b = whole_again q v h in
    grind (arith, a, b)

later_in_row : (p q v : ℕ) → 0 < v → p / v ≡ q / v → p % v < q % v → p < q
later_in_row p q v h e r =
    let a = whole_again p v h in
    let b = whole_again q v h in
    let c : p / v * v ≡ q / v * v = ap (λ z. z * v) e in
    omega (arith, a, b, c)

less_behind : (l : ℤ) (a b : ℕ) → (l +ℤ pos a) <ℤ (l +ℤ pos b) → a < b
less_behind l a b h = omega (arith, ints, h)

same_behind : (l : ℤ) (a b : ℕ) → l +ℤ pos a ≡ l +ℤ pos b → a ≡ b
same_behind l a b h = omega (arith, ints, h)

equal-less : Equal ≡ Less → ⊥
equal-less e = cc

greater-less : Greater ≡ Less → ⊥
greater-less e = cc

by_rows : (l : ℤ) (p q v : ℕ) (t o : Ordering) → 0 < v → t ≡ int_cmp (l +ℤ pos (p / v)) (l +ℤ pos (q / v)) → ordering_then t o ≡ Less → (o ≡ Less → p % v < q % v) → p < q
by_rows l p q v Less o some r f rest = later_row p q v some (less_behind l (p / v) (q / v) (int_ranked _ _ Less r))
by_rows l p q v Equal o some r f rest = later_in_row p q v some (same_behind l (p / v) (q / v) (int_ranked _ _ Equal r)) (rest f)
by_rows l p q v Greater o some r f rest = absurd (greater-less f)

-- a coordinate that comes first has the lower place
place_order : (lo : List ℤ) (ns : List ℕ) (p q : ℕ) → AreLengths ns → row_major (coordinate_in lo ns p) (coordinate_in lo ns q) ≡ Less → p < q
place_order lo [] p q a e = absurd (equal-less e)
place_order [] (n ∷ ns) p q a e = absurd (equal-less e)
place_order (l ∷ lo) (n ∷ ns) p q a e =
    by_rows l p q (volume ns) (int_cmp (l +ℤ pos (p / volume ns)) (l +ℤ pos (q / volume ns)))
    (row_major (coordinate_in lo ns (p % volume ns)) (coordinate_in lo ns (q % volume ns))) (some ns a.1) refl e
    (place_order lo ns (p % volume ns) (q % volume ns) a.1)

-- ---- rows and places

all_places : (Q : Coordinate → Type 0) (low : List ℤ) (lengths positions : List ℕ) (cells : List Cell) → length cells ≡ length positions
    → AllByRecursion (λ (row : Row). Q row.at.items) (rows_in low lengths positions cells) → AllByRecursion (λ p. Q (coordinate_in low lengths p)) positions
all_places Q low lengths [] cells e a = tt
all_places Q low lengths (p ∷ positions) [] e a = absurd (omega arith)
all_places Q low lengths (p ∷ positions) (cell ∷ cells) e a = (a.0, all_places Q low lengths positions cells (omega arith) a.1)

all_cells : (Q : Cell → Type 0) (low : List ℤ) (lengths positions : List ℕ) (cells : List Cell) → length cells ≡ length positions
    → AllByRecursion (λ (row : Row). Q row.cell) (rows_in low lengths positions cells) → AllByRecursion Q cells
all_cells Q low lengths [] [] e a = tt
all_cells Q low lengths [] (cell ∷ cells) e a = absurd (omega arith)
all_cells Q low lengths (p ∷ positions) [] e a = absurd (omega arith)
all_cells Q low lengths (p ∷ positions) (cell ∷ cells) e a = (a.0, all_cells Q low lengths positions cells (omega arith) a.1)

all_later : (lo : List ℤ) (ns : List ℕ) (p : ℕ) (ps : List ℕ) → AreLengths ns → AllByRecursion (λ q. row_major (coordinate_in lo ns p) (coordinate_in lo ns q) ≡ Less) ps → AllByRecursion (λ q. p < q) ps
all_later lo ns p [] a h = tt
all_later lo ns p (q ∷ ps) a h = (place_order lo ns p q a h.0, all_later lo ns p ps a h.1)

places_rise : (low : List ℤ) (lengths positions : List ℕ) (cells : List Cell) → AreLengths lengths → length cells ≡ length positions → IsRising (rows_in low lengths positions cells) → AreRising positions
places_rise low lengths [] cells a e r = tt
places_rise low lengths (p ∷ positions) [] a e r = absurd (omega arith)
places_rise low lengths (p ∷ positions) (cell ∷ cells) a e r = (
  all_later low lengths p positions a (all_places (λ c. row_major (coordinate_in low lengths p) c ≡ Less) low lengths positions cells (omega arith) r.0),
  places_rise low lengths positions cells a (omega arith) r.1,
)

-- ---- a chunk

module _ (schema : Schema) (margins : List ℕ) (rows : List Row) (chunk : Chunk) (part : IsPart schema.dimensions margins rows chunk) where
  -- what holds of each row holds of each of the chunk's
  its_rows : (P : Row → Type 0) → AllByRecursion P rows → AllByRecursion P (chunk_rows schema.dimensions margins chunk)
  its_rows P a = subst (AllByRecursion P) (sym part.cells) (all_kept P (λ row. is_inside (frame schema.dimensions margins chunk.at.items) row.at.items) rows a)

  pub its_cells : (Q : Cell → Type 0) → AllByRecursion (λ (row : Row). Q row.cell) rows → AllByRecursion Q chunk.cells
  its_cells Q a = all_cells Q (frame_low schema.dimensions margins chunk.at.items) (frame_lengths schema.dimensions margins) chunk.positions chunk.cells part.each (its_rows (λ row. Q row.cell) a)

  its_places : (Q : Coordinate → Type 0) → AllByRecursion (λ (row : Row). Q row.at.items) rows → AllByRecursion (λ p. Q (coordinate_at schema.dimensions margins chunk.at.items p)) chunk.positions
  its_places Q a = all_places Q (frame_low schema.dimensions margins chunk.at.items) (frame_lengths schema.dimensions margins) chunk.positions chunk.cells part.each (its_rows (λ row. Q row.at.items) a)

  its_rows_rise : IsRising rows → IsRising (chunk_rows schema.dimensions margins chunk)
  its_rows_rise r = subst IsRising (sym part.cells) (IsRising-rows_where (is_inside (frame schema.dimensions margins chunk.at.items)) rows r)

  its_core : length margins ≡ length schema.dimensions → holds_cell schema.dimensions margins chunk ≡ has_cell schema.dimensions rows chunk.at.items
  its_core n =
      ap (λ z. is_not_empty (within (core schema.dimensions chunk.at.items) z)) part.cells
      ∙ ap is_not_empty (within-within (core schema.dimensions chunk.at.items) (frame schema.dimensions margins chunk.at.items) rows (λ c. core_in_frame schema.dimensions margins chunk.at.items c n))

  pub valid_chunk : AreRowsOf schema rows → HasPlaces schema margins chunk → has_cell schema.dimensions rows chunk.at.items ≡ true → IsChunk schema margins chunk
  valid_chunk are places held =
      let near = (valid_placed schema are.valid).near in
      record {
        framed = places.framed;
        each = part.each;
        rising = places_rise (frame_low schema.dimensions margins chunk.at.items) (frame_lengths schema.dimensions margins) chunk.positions chunk.cells (some_places schema.dimensions margins near).0 part.each (its_rows_rise are.are_rows.rising);
        in_frame = part.in_frame;
        in_bounds = its_places (λ c. is_inside (bounds_of schema.dimensions) c ≡ true) are.are_rows.in_bounds;
        in_core = held_by_places schema.dimensions margins chunk part.each ∙ its_core places.framed.each ∙ held;
        cells = its_cells (IsCellOf schema.attributes) are.kinds;
      }

-- ---- all chunks

all_valid : (schema : Schema) (margins : List ℕ) (rows : List Row) (all chunks : List Chunk) → AreRowsOf schema rows
    → ((k : List ℕ) → length k ≡ length schema.dimensions → is_listed k (numbers all) ≡ has_cell schema.dimensions rows k)
    → AllByRecursion (λ k. length k ≡ length schema.dimensions) (numbers chunks) → AllByRecursion (λ k. is_listed k (numbers all) ≡ true) (numbers chunks)
    → AllByRecursion (HasPlaces schema margins) chunks → AllByRecursion (IsPart schema.dimensions margins rows) chunks → AllByRecursion (IsChunk schema margins) chunks
all_valid schema margins rows all [] are listed sized found places parts = tt
all_valid schema margins rows all (chunk ∷ chunks) are listed sized found places parts = (
  valid_chunk schema margins rows chunk parts.0 are places.0 (sym (listed chunk.at.items sized.0) ∙ found.0),
  all_valid schema margins rows all chunks are listed sized.1 found.1 places.1 parts.1,
)

pub valid_chunks : ChunksAreValid
valid_chunks schema array rows h =
    all_valid schema array.margins.items rows array.chunks array.chunks h.rows_of h.chunks.listed h.chunks.sized (each_listed (numbers array.chunks)) (held_rows_placed schema array rows h).all h.chunks.parts

all_sound : (schema : Schema) (margins : List ℕ) (rows : List Row) (chunks : List Chunk) → AreSound schema rows → AllByRecursion (IsPart schema.dimensions margins rows) chunks → AllByRecursion (HasSoundCells schema) chunks
all_sound schema margins rows [] sound parts = tt
all_sound schema margins rows (chunk ∷ chunks) sound parts =
    (its_cells schema margins rows chunk parts.0 (λ cell. is_sound schema.attributes cell ≡ true) sound, all_sound schema margins rows chunks sound parts.1)

pub sound_chunks : SoundRowsHaveSoundChunks
sound_chunks schema array rows h sound = all_sound schema array.margins.items rows array.chunks sound h.chunks.parts
