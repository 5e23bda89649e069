-- A chunk that is filled row by row.
use Rattle.std.proofs.Common.{◌≡◌, ℕ, ◌+◌, ◌^◌, ◌<◌, ◌≤◌, ℤ, true, None, Ok, append_assoc, List, [], ◌∷◌, ◌++◌, length, refl, sym, ap, ◌∙◌, subst, length-append}
use Rattle.std.specs.List.{AllByRecursion}
use Rattle.std.proofs.lemmas.List.{append-nil}
use Rattle.arrayvec.specs.ArrayVec.{ArrayVec}
use Rattle.cell_values.specs.declared.datum.Cell.{Cell}
use Rattle.cell_values.specs.declared.datum.Row.{Row}
use Rattle.cell_values.specs.declared.schema.Dimension.{Dimension}
use Rattle.cell_values.specs.declared.schema.Schema.{Schema}
use Rattle.array_rows.specs.Arrays.{AreRowsOf}
use Rattle.array_rows.specs.Boxes.{is_inside}
use Rattle.array_rows.specs.Rows.{Coordinate, placed}
use Rattle.array_geom.specs.declared.chunk.Chunk.{Chunk}
use Rattle.array_geom.specs.declared.grid.Grid.{Grid}
use Rattle.array_geom.specs.Geometry.{HasFrame, coordinate_in, frame, frame_lengths, frame_low, position_in, volume}
use Rattle.array_geom.specs.Inner.Ranges.{is_in_grid}
use Rattle.array_geom.specs.Link.{AreChunksOf, Is, chunk_rows, rows_in}
use Rattle.array_geom.proofs.NearLemmas.{inside_grid}
use Rattle.array_geom.proofs.PlaceLaws.{coordinate_again, position_below}
use Rattle.array_parts.specs.Made.{IsPlaced}
use Rattle.array_parts.proofs.Lists.{rows_in-more}
use Rattle.area_cells.specs.Inner.Filled.{IsFilled}

all_push : {X : Type 0} (P : X → Type 0) (xs : List X) (x : X) → AllByRecursion P xs → P x → AllByRecursion P (xs ++ x ∷ [])
all_push P [] x a p = (p, tt)
all_push P (y ∷ ys) x a p = (a.0, all_push P ys x a.1 p)

-- a row whose coordinate has a place in the grid
pub one_more_row : (low : List ℤ) (lengths : List ℕ) (row : Row) (p : ℕ) (old new : Chunk) (rows : List Row) → is_in_grid low lengths row.at.items ≡ true → p ≡ position_in low lengths row.at.items
    → new.positions ≡ old.positions ++ p ∷ [] → new.cells ≡ old.cells ++ row.cell ∷ [] → IsFilled low lengths rows old → IsFilled low lengths (rows ++ row ∷ []) new
one_more_row low lengths row p old new rows inside place positions cells is =
    let again : coordinate_in low lengths p ≡ row.at.items = ap (coordinate_in low lengths) place ∙ coordinate_again low lengths row.at.items inside in
    let small : p < volume lengths = subst (λ (q : ℕ). q < volume lengths) (sym place) (position_below low lengths row.at.items inside) in
    record {
      each = ap length cells ∙ length-append old.cells (row.cell ∷ []) ∙ ap (λ (n : ℕ). n + 1) is.each ∙ sym (length-append old.positions (p ∷ [])) ∙ sym (ap length positions);
      in_grid = subst (AllByRecursion (λ q. q < volume lengths)) (sym positions) (all_push (λ q. q < volume lengths) old.positions p is.in_grid small);
      cells =
          ap (λ (ps : List ℕ). rows_in low lengths ps new.cells) positions
          ∙ ap (λ (cs : List Cell). rows_in low lengths (old.positions ++ p ∷ []) cs) cells
          ∙ rows_in-more low lengths old.positions old.cells p row.cell is.each
          ∙ ap (λ (c : Coordinate). rows_in low lengths old.positions old.cells ++ placed c row.cell ∷ []) again
          ∙ ap (λ (rs : List Row). rs ++ row ∷ []) is.cells;
    }

pub filled_chunk : (dims : List Dimension) (margins : List ℕ) (low : List ℤ) (lengths : List ℕ) (number : ArrayVec ℕ) (chunk : Chunk) (rows : List Row) → low ≡ frame_low dims margins number.items → lengths ≡ frame_lengths dims margins → chunk.at ≡ number
    → IsFilled low lengths rows chunk → chunk_rows dims margins chunk ≡ rows
filled_chunk dims margins low lengths number chunk rows e f n is =
    ap (λ (at : ArrayVec ℕ). rows_in (frame_low dims margins at.items) (frame_lengths dims margins) chunk.positions chunk.cells) n
    ∙ ap (λ (l : List ℤ). rows_in l (frame_lengths dims margins) chunk.positions chunk.cells) (sym e)
    ∙ ap (λ (ns : List ℕ). rows_in low ns chunk.positions chunk.cells) (sym f)
    ∙ is.cells

pub filled_placed : (dims : List Dimension) (margins : List ℕ) (low : List ℤ) (lengths : List ℕ) (chunk : Chunk) (rows : List Row) → lengths ≡ frame_lengths dims margins → IsFilled low lengths rows chunk → IsPlaced dims margins chunk
filled_placed dims margins low lengths chunk rows f is = record { each = is.each; in_frame = subst (λ (ns : List ℕ). AllByRecursion (λ q. q < volume ns) chunk.positions) f is.in_grid }

-- these rows are still to come, each with a place in the grid
pub record IsFilling (low : List ℤ) (lengths : List ℕ) (number : ArrayVec ℕ) (all left : List Row) (chunk : Chunk) : Type 0 where
  pub number_is : chunk.at ≡ number
  pub inside : AllByRecursion (λ row. is_in_grid low lengths row.at.items ≡ true) left
  pub filled : (rows : List Row) × (IsFilled low lengths rows chunk) × (rows ++ left ≡ all)

pub begun : (schema : Schema) (margins : List ℕ) (k : ArrayVec ℕ) (grid : Grid) (all left : List Row) (chunk : Chunk) → HasFrame schema margins k.items → grid.low.items ≡ frame_low schema.dimensions margins k.items → grid.lengths.items ≡ frame_lengths schema.dimensions margins
    → AllByRecursion (λ row. is_inside (frame schema.dimensions margins k.items) row.at.items ≡ true) all → left ≡ all → chunk.at ≡ k → chunk.positions ≡ [] → chunk.cells ≡ [] → IsFilling grid.low.items grid.lengths.items k all left chunk
begun schema margins k grid all left chunk framed low lengths inside e n p cells = record {
  number_is = n;
  inside = subst (AllByRecursion (λ row. is_in_grid grid.low.items grid.lengths.items row.at.items ≡ true)) (sym e) (each all inside);
  filled = (
    [],
    record {
      each = ap length cells ∙ sym (ap length p);
      in_grid = subst (AllByRecursion (λ q. q < volume grid.lengths.items)) (sym p) tt;
      cells = ap (λ (ps : List ℕ). rows_in grid.low.items grid.lengths.items ps chunk.cells) p;
    },
    e,
  );
}
  where
    each : (rows : List Row) → AllByRecursion (λ row. is_inside (frame schema.dimensions margins k.items) row.at.items ≡ true) rows → AllByRecursion (λ row. is_in_grid grid.low.items grid.lengths.items row.at.items ≡ true) rows
    each [] a = tt
    each (row ∷ rows) a = (inside_grid schema margins k.items grid row.at.items framed low lengths a.0, each rows a.1)

pub one_more : (low : List ℤ) (lengths : List ℕ) (number : ArrayVec ℕ) (all left left' : List Row) (row : Row) (old new : Chunk) → left ≡ row ∷ left' → new.at ≡ old.at → ((rows : List Row) → IsFilled low lengths rows old → IsFilled low lengths (rows ++ row ∷ []) new)
    → IsFilling low lengths number all left old → IsFilling low lengths number all left' new
one_more low lengths number all left left' row old new e n f is =
    let inside = subst (AllByRecursion (λ row. is_in_grid low lengths row.at.items ≡ true)) e is.inside in
    record {
      number_is = n ∙ is.number_is;
      inside = inside.1;
      filled = (is.filled.0 ++ row ∷ [], f is.filled.0 is.filled.1, append_assoc is.filled.0 (row ∷ []) left' ∙ ap (λ (rs : List Row). is.filled.0 ++ rs) (sym e) ∙ is.filled.2);
    }

pub next_inside : (low : List ℤ) (lengths : List ℕ) (number : ArrayVec ℕ) (all left left' : List Row) (row : Row) (chunk : Chunk) → left ≡ row ∷ left' → IsFilling low lengths number all left chunk → is_in_grid low lengths row.at.items ≡ true
next_inside low lengths number all left left' row chunk e is = (subst (AllByRecursion (λ row. is_in_grid low lengths row.at.items ≡ true)) e is.inside).0

pub all_filled : (low : List ℤ) (lengths : List ℕ) (number : ArrayVec ℕ) (all left : List Row) (chunk : Chunk) → left ≡ [] → IsFilling low lengths number all left chunk → IsFilled low lengths all chunk
all_filled low lengths number all left chunk e is =
    subst (λ (rs : List Row). IsFilled low lengths rs chunk) (sym (append-nil is.filled.0) ∙ ap (λ (rs : List Row). is.filled.0 ++ rs) (sym e) ∙ is.filled.2) is.filled.1

pub is_array : (schema copy : Schema) (margins copied : ArrayVec ℕ) (chunks : List Chunk) (rows : List Row) → copy ≡ schema → copied ≡ margins → length margins.items ≡ length schema.dimensions → volume (frame_lengths schema.dimensions margins.items) ≤ 2 ^ 48
    → AreRowsOf schema rows → AreChunksOf schema.dimensions margins.items rows chunks → Is (record { schema = copy; margins = copied; chunks = chunks; broken = None }) (record { schema = schema; rows = Ok rows })
is_array schema copy margins copied chunks rows e f each places are chunked = record {
  schema = e;
  valid = are.valid;
  margins = ap (λ (m : ArrayVec ℕ). length m.items) f ∙ each;
  cells = record {
    whole = refl;
    rows_of = are;
    each = ap (λ (m : ArrayVec ℕ). length m.items) f ∙ each;
    places = subst (λ (m : ArrayVec ℕ). volume (frame_lengths schema.dimensions m.items) ≤ 2 ^ 48) (sym f) places;
    chunks = subst (λ (m : ArrayVec ℕ). AreChunksOf schema.dimensions m.items rows chunks) (sym f) chunked;
  };
}
