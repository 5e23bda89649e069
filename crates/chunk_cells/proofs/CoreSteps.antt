-- The rows of a chunk's core, cell by cell.
use Rattle.std.specs.List.{AllByRecursion}
use Rattle.std.proofs.Common.{◌≡◌, ℕ, ◌+◌, ◌<◌, ◌≤◌, ℤ, List, [], ◌∷◌, ◌++◌, length, drop, refl, sym, ap, ◌∙◌, append_assoc, zero, suc, subst, arith}
use Rattle.std.specs.Prelude.{slice_index_or}
use Rattle.std.proofs.lemmas.List.{drop_more, drop_all}
use Rattle.std.proofs.lemmas.List.Elements.{filter-append}
use Rattle.cell_values.specs.declared.datum.Cell.{Cell}
use Rattle.cell_values.specs.declared.datum.Row.{Row}
use Rattle.cell_values.specs.declared.schema.Bounds.{Bounds}
use Rattle.array_rows.specs.Boxes.{is_inside, within}
use Rattle.array_geom.specs.Link.{rows_in}

-- with the cells that are left, the rows become those of the box
abbrev pub IsOnTheWay : Bounds → List ℤ → List ℕ → List Row → List ℕ → List Cell → List ℕ → List Cell → Type 0
IsOnTheWay core low lengths rows left cells positions all = rows ++ within core (rows_in low lengths left cells) ≡ within core (rows_in low lengths positions all)

next_row : (low : List ℤ) (lengths : List ℕ) (p : ℕ) (ps : List ℕ) (cells : List Cell) → rows_in low lengths (p ∷ ps) cells ≡ rows_in low lengths (p ∷ []) cells ++ rows_in low lengths ps (drop 1 cells)
next_row low lengths p [] [] = refl
next_row low lengths p (q ∷ ps) [] = refl
next_row low lengths p ps (x ∷ cells) = refl

within-append : (area : Bounds) (a b : List Row) → within area (a ++ b) ≡ within area a ++ within area b
within-append area a b = filter-append (λ (r : Row). is_inside area r.at.items) a b

pub step : (core : Bounds) (low : List ℤ) (lengths : List ℕ) (rows rows' : List Row) (i : ℕ) (cells cells' : List Cell) (positions : List ℕ) (all : List Cell)
    → i < length positions → IsOnTheWay core low lengths rows (drop i positions) cells positions all
    → rows' ≡ rows ++ within core (rows_in low lengths (slice_index_or positions i 0 ∷ []) cells) → cells' ≡ drop 1 cells
    → IsOnTheWay core low lengths rows' (drop (i + 1) positions) cells' positions all
step core low lengths rows rows' i cells cells' positions all l h e f =
    let p = slice_index_or positions i 0 in
    let ps = drop (i + 1) positions in
    ap (λ (rs : List Row). rs ++ within core (rows_in low lengths ps cells')) e
    ∙ ap (λ (cs : List Cell). (rows ++ within core (rows_in low lengths (p ∷ []) cells)) ++ within core (rows_in low lengths ps cs)) f
    ∙ append_assoc rows (within core (rows_in low lengths (p ∷ []) cells)) (within core (rows_in low lengths ps (drop 1 cells)))
    ∙ ap (λ (rs : List Row). rows ++ rs) (sym (within-append core (rows_in low lengths (p ∷ []) cells) (rows_in low lengths ps (drop 1 cells))))
    ∙ ap (λ (rs : List Row). rows ++ within core rs) (sym (next_row low lengths p ps cells))
    ∙ ap (λ (qs : List ℕ). rows ++ within core (rows_in low lengths qs cells)) (sym (drop_more positions i 0 l))
    ∙ h

append-nil : {X : Type 0} (xs : List X) → xs ++ [] ≡ xs
append-nil [] = refl
append-nil (x ∷ xs) = ap (λ ys. x ∷ ys) (append-nil xs)

pub done : (core : Bounds) (low : List ℤ) (lengths : List ℕ) (rows : List Row) (i : ℕ) (cells : List Cell) (positions : List ℕ) (all : List Cell)
    → length positions ≤ i → IsOnTheWay core low lengths rows (drop i positions) cells positions all → rows ≡ within core (rows_in low lengths positions all)
done core low lengths rows i cells positions all l h =
    sym (append-nil rows) ∙ ap (λ (ps : List ℕ). rows ++ within core (rows_in low lengths ps cells)) (sym (drop_all i positions l)) ∙ h

-- each position is a place of the frame
pub place_at : (bound : ℕ) (positions slice : List ℕ) (i : ℕ) → slice ≡ positions → i < length slice → AllByRecursion (λ p. p < bound) positions → slice_index_or slice i 0 < bound
place_at bound positions slice i is low all = at slice i low (subst (AllByRecursion (λ p. p < bound)) (sym is) all)
  where
    at : (ps : List ℕ) (i : ℕ) → i < length ps → AllByRecursion (λ p. p < bound) ps → slice_index_or ps i 0 < bound
    at [] i low a = absurd (omega (arith, low))
    at (p ∷ ps) zero low a = a.0
    at (p ∷ ps) (suc i) low a = at ps i (omega (arith, low)) a.1

pub rows_of_core : (box core : Bounds) (low low' : List ℤ) (lengths lengths' : List ℕ) (rows : List Row) (i : ℕ) (cells : List Cell) (slice positions : List ℕ) (all : List Cell)
    → box ≡ core → low ≡ low' → lengths ≡ lengths' → slice ≡ positions → length slice ≤ i → IsOnTheWay box low lengths rows (drop i slice) cells slice all
    → rows ≡ within core (rows_in low' lengths' positions all)
rows_of_core box core low low' lengths lengths' rows i cells slice positions all b e f g past way =
    done box low lengths rows i cells slice all past way
    ∙ ap (λ (area : Bounds). within area (rows_in low lengths slice all)) b ∙ ap (λ (l : List ℤ). within core (rows_in l lengths slice all)) e
    ∙ ap (λ (n : List ℕ). within core (rows_in low' n slice all)) f ∙ ap (λ (ps : List ℕ). within core (rows_in low' lengths' ps all)) g
