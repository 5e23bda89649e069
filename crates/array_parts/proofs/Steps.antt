-- A chunk that is changed cell by cell: what is made so far, and what is still to come.
use Rattle.std.proofs.Common.{◌≡◌, ℕ, suc, ◌+◌, ◌<◌, ◌≤◌, ℤ, List, [], ◌∷◌, ◌++◌, length, drop, Option, Some, None, refl, sym, ap, subst, ◌∙◌, append_assoc}
use Rattle.std.proofs.lemmas.List.{drop_more, drop_all}
use Rattle.std.specs.List.{AllByRecursion}
use Rattle.std.specs.Prelude.{slice_index_or}
use Rattle.cell_values.specs.declared.datum.Cell.{Cell}
use Rattle.cell_values.specs.declared.datum.Row.{Row}
use Rattle.cell_values.specs.declared.schema.Dimension.{Dimension}
use Rattle.array_geom.specs.Boxes.{within}
use Rattle.array_geom.specs.Cellwise.{put_first, cell_wise}
use Rattle.array_geom.specs.Rows.{Coordinate, placed}
use Rattle.array_geom.proofs.RowsLemmas.{within-cell_wise}
use Rattle.arrayvec.specs.ArrayVec.{ArrayVec}
use Rattle.array_geom.specs.declared.chunk.Chunk.{Chunk}
use Rattle.array_geom.specs.Chunks.{AreRising}
use Rattle.array_geom.specs.Geometry.{coordinate_in, frame, frame_low, frame_lengths, volume}
use Rattle.array_geom.specs.Link.{rows_in, IsPart}
use Rattle.array_parts.specs.Made.{IsPlaced, IsMadeBy, with_cell, with_next}
use Rattle.array_parts.proofs.Lists.{All-without, AreRising-without, length-more, not_none, one_less, rows_in-more}

-- these cells of the old chunk are still to come; with what becomes of them the chunk is made
pub record IsOngoing (change : Coordinate → Cell → Option Cell) (low : List ℤ) (lengths : List ℕ) (old made : Chunk) (left : List ℕ) (cells : List Cell) : Type 0 where
  pub number : made.at ≡ old.at
  pub each : length made.cells ≡ length made.positions
  pub as_many : length cells ≡ length left
  pub in_frame : AllByRecursion (λ p. p < volume lengths) (made.positions ++ left)
  pub rising : AreRising old.positions → AreRising (made.positions ++ left)
  pub rows : rows_in low lengths made.positions made.cells ++ cell_wise change (rows_in low lengths left cells) ≡ cell_wise change (rows_in low lengths old.positions old.cells)

at_first : (change : Coordinate → Cell → Option Cell) (low : List ℤ) (lengths : List ℕ) (old made : Chunk) → made.at ≡ old.at → made.positions ≡ [] → made.cells ≡ []
    → length old.cells ≡ length old.positions → AllByRecursion (λ p. p < volume lengths) old.positions → IsOngoing change low lengths old made old.positions old.cells
at_first change low lengths old made n p c e f = record {
  number = n;
  each = ap (λ (cs : List Cell). length cs) c ∙ sym (ap (λ (ps : List ℕ). length ps) p);
  as_many = e;
  in_frame = subst (λ (ps : List ℕ). AllByRecursion (λ q. q < volume lengths) (ps ++ old.positions)) (sym p) f;
  rising = λ r. subst (λ (ps : List ℕ). AreRising (ps ++ old.positions)) (sym p) r;
  rows = ap (λ (ps : List ℕ). rows_in low lengths ps made.cells ++ cell_wise change (rows_in low lengths old.positions old.cells)) p;
}

-- all cells are still to come
pub begins : (change : Coordinate → Cell → Option Cell) (dims : List Dimension) (margins : List ℕ) (low : List ℤ) (lengths : List ℕ) (old made : Chunk) (positions : List ℕ) (cells : List Cell)
    → lengths ≡ frame_lengths dims margins → IsPlaced dims margins old → made.at ≡ old.at → made.positions ≡ [] → made.cells ≡ [] → positions ≡ old.positions → cells ≡ old.cells
    → IsOngoing change low lengths old made positions cells
begins change dims margins low lengths old made positions cells l placed n p c e f =
    subst (λ (ps : List ℕ). IsOngoing change low lengths old made ps cells) (sym e)
    (subst (λ (cs : List Cell). IsOngoing change low lengths old made old.positions cs) (sym f)
    (at_first change low lengths old made n p c placed.each (subst (λ (ns : List ℕ). AllByRecursion (λ q. q < volume ns) old.positions) (sym l) placed.in_frame)))

-- a cell that is left out, and one that is kept
with_none : (change : Coordinate → Cell → Option Cell) (low : List ℤ) (lengths : List ℕ) (old made : Chunk) (p : ℕ) (left : List ℕ) (x : Cell) (cells : List Cell)
    → change (coordinate_in low lengths p) x ≡ None → IsOngoing change low lengths old made (p ∷ left) (x ∷ cells) → IsOngoing change low lengths old made left cells
with_none change low lengths old made p left x cells e h = record {
  number = h.number;
  each = h.each;
  as_many = one_less (length cells) (length left) h.as_many;
  in_frame = All-without (λ q. q < volume lengths) made.positions p left h.in_frame;
  rising = λ r. AreRising-without made.positions p left (h.rising r);
  rows = ap (λ (o : Option Cell). rows_in low lengths made.positions made.cells ++ put_first (coordinate_in low lengths p) o (cell_wise change (rows_in low lengths left cells))) (sym e) ∙ h.rows;
}

with_some : (change : Coordinate → Cell → Option Cell) (low : List ℤ) (lengths : List ℕ) (old made : Chunk) (p : ℕ) (left : List ℕ) (x y : Cell) (cells : List Cell)
    → change (coordinate_in low lengths p) x ≡ Some y → IsOngoing change low lengths old made (p ∷ left) (x ∷ cells) → IsOngoing change low lengths old (with_cell made p (Some y)) left cells
with_some change low lengths old made p left x y cells e h = record {
  number = h.number;
  each = length-more made.cells y ∙ ap suc h.each ∙ sym (length-more made.positions p);
  as_many = one_less (length cells) (length left) h.as_many;
  in_frame = subst (AllByRecursion (λ q. q < volume lengths)) (sym (append_assoc made.positions (p ∷ []) left)) h.in_frame;
  rising = λ r. subst AreRising (sym (append_assoc made.positions (p ∷ []) left)) (h.rising r);
  rows =
      ap (λ (rs : List Row). rs ++ cell_wise change (rows_in low lengths left cells)) (rows_in-more low lengths made.positions made.cells p y h.each)
      ∙ append_assoc (rows_in low lengths made.positions made.cells) (placed (coordinate_in low lengths p) y ∷ []) (cell_wise change (rows_in low lengths left cells))
      ∙ ap (λ (o : Option Cell). rows_in low lengths made.positions made.cells ++ put_first (coordinate_in low lengths p) o (cell_wise change (rows_in low lengths left cells))) (sym e)
      ∙ h.rows;
}

goes_on : (change : Coordinate → Cell → Option Cell) (low : List ℤ) (lengths : List ℕ) (old made : Chunk) (p : ℕ) (left : List ℕ) (cells : List Cell)
    → IsOngoing change low lengths old made (p ∷ left) cells → IsOngoing change low lengths old (with_next (change (coordinate_in low lengths p)) p made cells) left (drop 1 cells)
goes_on change low lengths old made p left [] h = absurd (not_none (length left) h.as_many)
goes_on change low lengths old made p left (x ∷ cells) h = cases (change (coordinate_in low lengths p) x) refl
  where
    cases : (o : Option Cell) → change (coordinate_in low lengths p) x ≡ o → IsOngoing change low lengths old (with_cell made p o) left cells
    cases None e = with_none change low lengths old made p left x cells e h
    cases (Some y) e = with_some change low lengths old made p left x y cells e h

-- the next place is within the frame
pub next_in_frame : (change : Coordinate → Cell → Option Cell) (low : List ℤ) (lengths : List ℕ) (old made : Chunk) (positions : List ℕ) (i : ℕ) (cells : List Cell)
    → i < length positions → IsOngoing change low lengths old made (drop i positions) cells → slice_index_or positions i 0 < volume lengths
next_in_frame change low lengths old made positions i cells l h = first made.positions (slice_index_or positions i 0) (drop (i + 1) positions) (subst (λ (ps : List ℕ). AllByRecursion (λ q. q < volume lengths) (made.positions ++ ps)) (drop_more positions i 0 l) h.in_frame)
  where
    first : (a : List ℕ) (x : ℕ) (b : List ℕ) → AllByRecursion (λ q. q < volume lengths) (a ++ x ∷ b) → x < volume lengths
    first [] x b k = k.0
    first (y ∷ a) x b k = first a x b k.1

pub next : (change : Coordinate → Cell → Option Cell) (low : List ℤ) (lengths : List ℕ) (old made made' : Chunk) (positions : List ℕ) (i : ℕ) (cells cells' : List Cell)
    → i < length positions → IsOngoing change low lengths old made (drop i positions) cells
    → made' ≡ with_next (change (coordinate_in low lengths (slice_index_or positions i 0))) (slice_index_or positions i 0) made cells → cells' ≡ drop 1 cells
    → IsOngoing change low lengths old made' (drop (i + 1) positions) cells'
next change low lengths old made made' positions i cells cells' l h e f =
    subst (λ (m : Chunk). IsOngoing change low lengths old m (drop (i + 1) positions) cells') (sym e)
    (subst (λ (cs : List Cell). IsOngoing change low lengths old (with_next (change (coordinate_in low lengths (slice_index_or positions i 0))) (slice_index_or positions i 0) made cells) (drop (i + 1) positions) cs) (sym f)
    (goes_on change low lengths old made (slice_index_or positions i 0) (drop (i + 1) positions) cells (subst (λ (ps : List ℕ). IsOngoing change low lengths old made ps cells) (drop_more positions i 0 l) h)))

append-none : {A : Type 0} (xs : List A) → xs ++ [] ≡ xs
append-none [] = refl
append-none (x ∷ xs) = ap (λ ys. x ∷ ys) (append-none xs)

at_end : (change : Coordinate → Cell → Option Cell) (dims : List Dimension) (margins : List ℕ) (old made : Chunk)
    → IsOngoing change (frame_low dims margins old.at.items) (frame_lengths dims margins) old made [] [] → IsMadeBy (cell_wise change) dims margins old made
at_end change dims margins old made k = record {
  number = k.number;
  placed = record { each = k.each; in_frame = subst (AllByRecursion (λ q. q < volume (frame_lengths dims margins))) (append-none made.positions) k.in_frame };
  rising = λ r. subst AreRising (append-none made.positions) (k.rising r);
  rows =
      ap (λ (at : ArrayVec ℕ). rows_in (frame_low dims margins at.items) (frame_lengths dims margins) made.positions made.cells) k.number
      ∙ sym (append-none (rows_in (frame_low dims margins old.at.items) (frame_lengths dims margins) made.positions made.cells))
      ∙ k.rows;
}

-- no cell is left
pub done : (change : Coordinate → Cell → Option Cell) (dims : List Dimension) (margins : List ℕ) (low : List ℤ) (lengths : List ℕ) (old made : Chunk) (positions : List ℕ) (i : ℕ) (cells : List Cell)
    → low ≡ frame_low dims margins old.at.items → lengths ≡ frame_lengths dims margins → length positions ≤ i
    → IsOngoing change low lengths old made (drop i positions) cells → IsMadeBy (cell_wise change) dims margins old made
done change dims margins low lengths old made positions i cells e f l h =
    at_end change dims margins old made
    (subst (λ (ns : List ℕ). IsOngoing change (frame_low dims margins old.at.items) ns old made [] []) f
    (subst (λ (zs : List ℤ). IsOngoing change zs lengths old made [] []) e
    (none_left cells (subst (λ (ps : List ℕ). IsOngoing change low lengths old made ps cells) (drop_all i positions l) h))))
  where
    none_left : (cs : List Cell) → IsOngoing change low lengths old made [] cs → IsOngoing change low lengths old made [] []
    none_left [] k = k
    none_left (x ∷ cs) k = absurd (not_none (length cs) (sym k.as_many))

-- what is made of a part of some rows is that part of what is made of the rows
pub part_made : (change : Coordinate → Cell → Option Cell) (dims : List Dimension) (margins : List ℕ) (rows : List Row) (old new : Chunk) → IsPart dims margins rows old → IsMadeBy (cell_wise change) dims margins old new → IsPart dims margins (cell_wise change rows) new
part_made change dims margins rows old new part made = record {
  each = made.placed.each;
  in_frame = made.placed.in_frame;
  cells =
      made.rows
      ∙ ap (cell_wise change) part.cells
      ∙ sym (within-cell_wise (frame dims margins old.at.items) change rows)
      ∙ ap (λ (at : ArrayVec ℕ). within (frame dims margins at.items) (cell_wise change rows)) (sym made.number);
}

-- the same, by the index of the cell
pub next_at : (change : Coordinate → Cell → Option Cell) (low : List ℤ) (lengths : List ℕ) (old made new : Chunk) (positions : List ℕ) (cells : List Cell) (i : ℕ) (d : Cell) → i < length positions → length cells ≡ length positions
    → IsOngoing change low lengths old made (drop i positions) (drop i cells)
    → new ≡ with_cell made (slice_index_or positions i 0) (change (coordinate_in low lengths (slice_index_or positions i 0)) (slice_index_or cells i d))
    → IsOngoing change low lengths old new (drop (i + 1) positions) (drop (i + 1) cells)
next_at change low lengths old made new positions cells i d l same h e =
    let p = slice_index_or positions i 0 in
    let m : i < length cells = subst (λ n. i < n) (sym same) l in
    subst (λ (c : Chunk). IsOngoing change low lengths old c (drop (i + 1) positions) (drop (i + 1) cells)) (sym e)
    (goes_on change low lengths old made p (drop (i + 1) positions) (slice_index_or cells i d ∷ drop (i + 1) cells)
    (subst (λ (cs : List Cell). IsOngoing change low lengths old made (p ∷ drop (i + 1) positions) cs) (drop_more cells i d m)
    (subst (λ (ps : List ℕ). IsOngoing change low lengths old made ps (drop i cells)) (drop_more positions i 0 l) h)))
