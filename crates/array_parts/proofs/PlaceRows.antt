-- The rows of valid chunks: places that rise have coordinates that rise.
use Rattle.std.proofs.Common.{◌≡◌, ℕ, ◌+◌, ◌*◌, ◌/◌, ◌%◌, ◌<◌, ℤ, pos, ◌+ℤ◌, ◌<ℤ◌, List, [], ◌∷◌, length, refl, ap, arith}
use Rattle.std.proofs.lemmas.Int.{ints}
use Rattle.std.proofs.lemmas.Cmp.{int_ranked}
use Rattle.std.specs.List.{AllByRecursion}
use Rattle.std.specs.Prelude.{IsTrue}
use Rattle.std.specs.Ordering.{int_cmp, ordering_then}
use Rattle.std.specs.declared.cmp.Ordering.{Ordering}
use Rattle.std.specs.declared.cmp.Ordering.TheVariants.{Less, Equal, Greater}
use Rattle.cell_values.specs.declared.datum.Cell.{Cell}
use Rattle.cell_values.specs.declared.datum.Row.{Row}
use Rattle.cell_values.specs.declared.schema.Schema.{Schema}
use Rattle.cell_values.specs.Cells.{IsCellOf}
use Rattle.array_geom.specs.Arrays.{AreRowsOf}
use Rattle.array_geom.specs.Boxes.{is_inside, bounds_of}
use Rattle.array_geom.specs.Rows.{Coordinate, IsBefore, IsRising, row_major}
use Rattle.array_geom.specs.declared.chunk.Chunk.{Chunk}
use Rattle.array_geom.specs.Chunks.{AreRising, IsChunk}
use Rattle.array_geom.specs.Geometry.{coordinate_in, frame_low, frame_lengths, volume}
use Rattle.array_geom.specs.Link.{chunk_rows, rows_in}
use Rattle.array_geom.specs.Inner.Ranges.{AreLengths}
use Rattle.array_geom.proofs.NearLemmas.{as_many, some_places, valid_placed}
use Rattle.array_geom.proofs.PlaceLaws.{some}
use Rattle.array_parts.specs.CoresLaws.{ValidChunksHaveCells}

-- ---- the order of coordinates

whole_again : (p v : ℕ) → 0 < v → p / v * v + p % v ≡ p
whole_again p v h = grind arith

below : (p v : ℕ) → 0 < v → p % v < v
below p v h = grind arith

-- a place in an earlier row comes first
earlier_row : (p q v : ℕ) → 0 < v → p / v < q / v → p < q
earlier_row p q v h r =
    let a = whole_again p v h in
    let b = whole_again q v h in
    grind (arith, a, b)

later_in_row : (p q v : ℕ) → 0 < v → p / v ≡ q / v → p < q → p % v < q % v
later_in_row p q v h e l =
    let a = whole_again p v h in
    let b = whole_again q v h in
    let c : p / v * v ≡ q / v * v = ap (λ z. z * v) e in
    omega (arith, a, b, c)

place_rises : (lo : List ℤ) (ns : List ℕ) (p q : ℕ) → AreLengths ns → length lo ≡ length ns → p < q → q < volume ns → row_major (coordinate_in lo ns p) (coordinate_in lo ns q) ≡ Less
place_rises [] [] p q a e l h = absurd (omega arith)
place_rises [] (n ∷ ns) p q a e l h = absurd (omega arith)
place_rises (x ∷ lo) [] p q a e l h = absurd (omega arith)
place_rises (x ∷ lo) (n ∷ ns) p q a e l h = cases (int_cmp (x +ℤ pos (p / volume ns)) (x +ℤ pos (q / volume ns))) refl (λ f. place_rises lo ns (p % volume ns) (q % volume ns) a.1 (omega arith) f (below q (volume ns) (some ns a.1)))
  where
    cases : (t : Ordering) → t ≡ int_cmp (x +ℤ pos (p / volume ns)) (x +ℤ pos (q / volume ns))
        → (p % volume ns < q % volume ns → row_major (coordinate_in lo ns (p % volume ns)) (coordinate_in lo ns (q % volume ns)) ≡ Less)
        → ordering_then t (row_major (coordinate_in lo ns (p % volume ns)) (coordinate_in lo ns (q % volume ns))) ≡ Less
    cases Less r rest = refl
    cases Equal r rest =
        let b : x +ℤ pos (p / volume ns) ≡ x +ℤ pos (q / volume ns) = int_ranked _ _ Equal r in
        rest (later_in_row p q (volume ns) (some ns a.1) (omega (arith, ints, b)) l)
    cases Greater r rest =
        let b : (x +ℤ pos (q / volume ns)) <ℤ (x +ℤ pos (p / volume ns)) = int_ranked _ _ Greater r in
        let f : q < p = earlier_row q p (volume ns) (some ns a.1) (omega (arith, ints, b)) in
        absurd (omega (arith, f, l))

-- ---- rows at places

rows_before : (lo : List ℤ) (ns : List ℕ) (p : ℕ) (positions : List ℕ) (cells : List Cell) → AreLengths ns → length lo ≡ length ns → AllByRecursion (λ q. p < q) positions → AllByRecursion (λ q. q < volume ns) positions
    → IsBefore (coordinate_in lo ns p) (rows_in lo ns positions cells)
rows_before lo ns p [] cells a e l h = tt
rows_before lo ns p (q ∷ positions) [] a e l h = tt
rows_before lo ns p (q ∷ positions) (cell ∷ cells) a e l h = (place_rises lo ns p q a e l.0 h.0, rows_before lo ns p positions cells a e l.1 h.1)

rows_rise : (lo : List ℤ) (ns positions : List ℕ) (cells : List Cell) → AreLengths ns → length lo ≡ length ns → AreRising positions → AllByRecursion (λ q. q < volume ns) positions → IsRising (rows_in lo ns positions cells)
rows_rise lo ns [] cells a e r h = tt
rows_rise lo ns (p ∷ positions) [] a e r h = tt
rows_rise lo ns (p ∷ positions) (cell ∷ cells) a e r h = (rows_before lo ns p positions cells a e r.0 h.1, rows_rise lo ns positions cells a e r.1 h.1)

all_at : (Q : Coordinate → Type 0) (lo : List ℤ) (ns positions : List ℕ) (cells : List Cell) → AllByRecursion (λ p. Q (coordinate_in lo ns p)) positions → AllByRecursion (λ (row : Row). Q row.at.items) (rows_in lo ns positions cells)
all_at Q lo ns [] cells a = tt
all_at Q lo ns (p ∷ positions) [] a = tt
all_at Q lo ns (p ∷ positions) (cell ∷ cells) a = (a.0, all_at Q lo ns positions cells a.1)

all_cells : (Q : Cell → Type 0) (lo : List ℤ) (ns positions : List ℕ) (cells : List Cell) → AllByRecursion Q cells → AllByRecursion (λ (row : Row). Q row.cell) (rows_in lo ns positions cells)
all_cells Q lo ns [] cells a = tt
all_cells Q lo ns (p ∷ positions) [] a = tt
all_cells Q lo ns (p ∷ positions) (cell ∷ cells) a = (a.0, all_cells Q lo ns positions cells a.1)

-- ---- chunks

valid_rows : (schema : Schema) (margins : List ℕ) (chunk : Chunk) → IsChunk schema margins chunk → AreRowsOf schema (chunk_rows schema.dimensions margins chunk)
valid_rows schema margins chunk is =
    let dims = schema.dimensions in
    let low = frame_low dims margins chunk.at.items in
    let lengths = frame_lengths dims margins in
    let near = (valid_placed schema is.framed.valid).near in
    record {
      valid = is.framed.valid;
      are_rows = record {
        rising = rows_rise low lengths chunk.positions chunk.cells (some_places dims margins near).0 (as_many dims margins chunk.at.items is.framed.core) is.rising is.in_frame;
        in_bounds = all_at (λ c. IsTrue (is_inside (bounds_of dims) c)) low lengths chunk.positions chunk.cells is.in_bounds;
      };
      kinds = all_cells (IsCellOf schema.attributes) low lengths chunk.positions chunk.cells is.cells;
    }

pub all_valid : (schema : Schema) (margins : List ℕ) (chunks : List Chunk) → AllByRecursion (IsChunk schema margins) chunks → AllByRecursion (λ chunk. AreRowsOf schema (chunk_rows schema.dimensions margins chunk)) chunks
all_valid schema margins [] a = tt
all_valid schema margins (chunk ∷ chunks) a = (valid_rows schema margins chunk a.0, all_valid schema margins chunks a.1)

pub valid_chunks_have_cells : ValidChunksHaveCells
valid_chunks_have_cells schema margins chunks placed a = record { placed = placed; rows_of = all_valid schema margins chunks a }
