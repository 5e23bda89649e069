-- A chunk that is filled with cells that were found.
use Rattle.std.proofs.Common.{◌≡◌, ℕ, ◌+◌, true, ◌<◌, List, [], ◌∷◌, ◌++◌, length, take, sym, ap, ◌∙◌, subst, length-append}
use Rattle.std.specs.List.{AllByRecursion}
use Rattle.cell_values.specs.declared.datum.Cell.{Cell}
use Rattle.cell_values.specs.declared.datum.Row.{Row}
use Rattle.array_geom.specs.declared.chunk.Chunk.{Chunk}
use Rattle.array_geom.specs.declared.grid.Grid.{Grid}
use Rattle.array_geom.specs.Arrays.{AreRowsOf}
use Rattle.array_geom.specs.Geometry.{HasFrame, frame, frame_lengths, frame_low, volume}
use Rattle.array_geom.specs.Inner.Ranges.{is_in_grid}
use Rattle.array_geom.specs.Link.{chunk_rows, rows_in}
use Rattle.array_geom.proofs.NearLemmas.{inside_grid}
use Rattle.array_parts.specs.Cores.{HaveCells}
use Rattle.array_rows.specs.Boxes.{is_inside}
use Rattle.array_rows.specs.Rows.{Coordinate, IsRising}
use Rattle.cell_values.specs.declared.schema.Bounds.{Bounds}
use Rattle.cell_values.specs.declared.schema.Schema.{Schema}
use Rattle.array_parts.proofs.Lists.{rows_in-more}
use Rattle.area_cells.specs.declared.finding.Found.{Found}
use Rattle.area_cells.specs.Found.{IsFound, found_cell, found_row, found_rows}
use Rattle.area_cells.specs.Inner.Filled.{IsFilled}

all_push : (n : ℕ) (xs : List ℕ) (p : ℕ) → AllByRecursion (λ q. q < n) xs → p < n → AllByRecursion (λ q. q < n) (xs ++ p ∷ [])
all_push n [] p a l = (l, tt)
all_push n (x ∷ xs) p a l = (a.0, all_push n xs p a.1 l)

pub found_more : (grid : Grid) (f : Found) (old new : Chunk) → IsFound grid f → new.positions ≡ old.positions ++ f.position ∷ [] → new.cells ≡ old.cells ++ found_cell f ∷ []
    → (rows : List Row) → IsFilled grid.low.items grid.lengths.items rows old → IsFilled grid.low.items grid.lengths.items (rows ++ found_row grid f ∷ []) new
found_more grid f old new is positions cells rows filled =
    let low = grid.low.items in
    let lengths = grid.lengths.items in
    record {
      each = ap length cells ∙ length-append old.cells (found_cell f ∷ []) ∙ ap (λ (n : ℕ). n + 1) filled.each ∙ sym (length-append old.positions (f.position ∷ [])) ∙ sym (ap length positions);
      in_grid = subst (AllByRecursion (λ q. q < volume lengths)) (sym positions) (all_push (volume lengths) old.positions f.position filled.in_grid is.inside);
      cells =
          ap (λ (ps : List ℕ). rows_in low lengths ps new.cells) positions
          ∙ ap (λ (cs : List Cell). rows_in low lengths (old.positions ++ f.position ∷ []) cs) cells
          ∙ rows_in-more low lengths old.positions old.cells f.position (found_cell f) filled.each
          ∙ ap (λ (rs : List Row). rs ++ found_row grid f ∷ []) filled.cells;
    }

pub none_filled : (grid : Grid) (all : List Found) (chunk : Chunk) → chunk.positions ≡ [] → chunk.cells ≡ [] → IsFilled grid.low.items grid.lengths.items (found_rows grid (take 0 all)) chunk
none_filled grid all chunk positions cells = record {
  each = ap length cells ∙ sym (ap length positions);
  in_grid = subst (AllByRecursion (λ q. q < volume grid.lengths.items)) (sym positions) tt;
  cells = ap (λ (ps : List ℕ). rows_in grid.low.items grid.lengths.items ps chunk.cells) positions;
}

-- ---- what is asked for

pub held_by : (schema : Schema) (margins : List ℕ) (k : List ℕ) (grid : Grid) (area : Bounds) → HasFrame schema margins k → grid.low.items ≡ frame_low schema.dimensions margins k → grid.lengths.items ≡ frame_lengths schema.dimensions margins → area ≡ frame schema.dimensions margins k
    → (c : Coordinate) → is_inside area c ≡ true → is_in_grid grid.low.items grid.lengths.items c ≡ true
held_by schema margins k grid area framed low lengths e c h = inside_grid schema margins k grid c framed low lengths (subst (λ (b : Bounds). is_inside b c ≡ true) e h)

pub rows_rise : (schema : Schema) (margins : List ℕ) (chunks some : List Chunk) → some ≡ chunks → HaveCells schema margins chunks → AllByRecursion (λ chunk. IsRising (chunk_rows schema.dimensions margins chunk)) some
rows_rise schema margins chunks some e h = subst (AllByRecursion (λ chunk. IsRising (chunk_rows schema.dimensions margins chunk))) (sym e) (each chunks h.rows_of)
  where
    each : (xs : List Chunk) → AllByRecursion (λ chunk. AreRowsOf schema (chunk_rows schema.dimensions margins chunk)) xs → AllByRecursion (λ chunk. IsRising (chunk_rows schema.dimensions margins chunk)) xs
    each [] a = tt
    each (chunk ∷ xs) a = (a.0.are_rows.rising, each xs a.1)
