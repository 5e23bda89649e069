-- Cells and sets of cells that are put together in another order are the same rows.
use Rattle.std.proofs.Common.{◌≡◌, ◌⊎◌, Bool, true, false, cond, List, [], ◌∷◌, Option, Some, None, refl, sym, ap, ◌∙◌, subst, inl, inr}
use Rattle.std.specs.Option.{option_or}
use Rattle.std.specs.declared.cmp.Ordering.{Ordering}
use Rattle.std.specs.declared.cmp.Ordering.TheVariants.{Less, Equal, Greater}
use Rattle.std.specs.Ordering.{is_eq}
use Rattle.cell_values.specs.declared.datum.Cell.{Cell}
use Rattle.cell_values.specs.declared.datum.Row.{Row}
use Rattle.array_rows.specs.Rows.{Coordinate, row_major, cell_at, put_row, put_all}
use Rattle.array_rows.proofs.RowsLemmas.{row_major_exact, same_coordinate, same_rows}
use Rattle.array_rows.proofs.RowSets.{cell_at-put_row, cell_at-put_all, IsRising-put_row, IsRising-put_all}
use Rattle.agg_states.specs.Stands.{AreApart}
use Rattle.agg_states.specs.Laws.{CellsInAnyOrder, SetsInAnyOrder, SetsInAnyGroups}

-- of sets that are apart one has no cell at a coordinate
apart_at : (a b : List Row) → AreApart a b → (c : Coordinate) → (cell_at a c ≡ None) ⊎ (cell_at b c ≡ None)
apart_at [] b h c = inl refl
apart_at (row ∷ a) b h c = cases (row_major row.at.items c) refl (apart_at a b h.1 c)
  where
    cases : (o : Ordering) → row_major row.at.items c ≡ o → (cell_at a c ≡ None) ⊎ (cell_at b c ≡ None) → (cond (is_eq o) (Some row.cell) (cell_at a c) ≡ None) ⊎ (cell_at b c ≡ None)
    cases Equal e ih = inr (subst (λ d. cell_at b d ≡ None) (row_major_exact row.at.items c e) h.0)
    cases Less e ih = ih
    cases Greater e ih = ih

either_first : (x y : Option Cell) → (x ≡ None) ⊎ (y ≡ None) → option_or x y ≡ option_or y x
either_first None None h = refl
either_first None (Some y) h = refl
either_first (Some x) None h = refl
either_first (Some x) (Some y) (inl e) = cc
either_first (Some x) (Some y) (inr e) = cc

pub sets_in_any_order : SetsInAnyOrder
sets_in_any_order a b ra rb h =
    same_rows (put_all a b) (put_all b a) (IsRising-put_all a b rb) (IsRising-put_all b a ra)
    (λ c. cell_at-put_all a b c ∙ either_first (cell_at a c) (cell_at b c) (apart_at a b h c) ∙ sym (cell_at-put_all b a c))

in_turn : (x y z : Option Cell) → option_or (option_or x y) z ≡ option_or x (option_or y z)
in_turn None y z = refl
in_turn (Some x) y z = refl

pub sets_in_any_groups : SetsInAnyGroups
sets_in_any_groups a b c r =
    same_rows (put_all (put_all a b) c) (put_all a (put_all b c)) (IsRising-put_all (put_all a b) c r) (IsRising-put_all a (put_all b c) (IsRising-put_all b c r))
    (λ d.
    cell_at-put_all (put_all a b) c d
    ∙ ap (λ o. option_or o (cell_at c d)) (cell_at-put_all a b d)
    ∙ in_turn (cell_at a d) (cell_at b d) (cell_at c d)
    ∙ ap (option_or (cell_at a d)) (sym (cell_at-put_all b c d))
    ∙ sym (cell_at-put_all a (put_all b c) d))

is_equal : (o : Ordering) → is_eq o ≡ true → o ≡ Equal
is_equal Equal e = refl
is_equal Less e = cc
is_equal Greater e = cc

swap_tests : (p q : Bool) (x y z : Option Cell) → (p ≡ true → q ≡ true → ⊥) → cond p x (cond q y z) ≡ cond q y (cond p x z)
swap_tests true true x y z n = absurd (n refl refl)
swap_tests true false x y z n = refl
swap_tests false q x y z n = refl

pub cells_in_any_order : CellsInAnyOrder
cells_in_any_order x y rows r n =
    same_rows (put_row x (put_row y rows)) (put_row y (put_row x rows)) (IsRising-put_row x (put_row y rows) (IsRising-put_row y rows r)) (IsRising-put_row y (put_row x rows) (IsRising-put_row x rows r))
    (λ c.
    cell_at-put_row x (put_row y rows) c
    ∙ ap (cond (is_eq (row_major x.at.items c)) (Some x.cell)) (cell_at-put_row y rows c)
    ∙ swap_tests (is_eq (row_major x.at.items c)) (is_eq (row_major y.at.items c)) (Some x.cell) (Some y.cell) (cell_at rows c)
    (λ p q. n (ap (row_major x.at.items) (row_major_exact y.at.items c (is_equal _ q) ∙ sym (row_major_exact x.at.items c (is_equal _ p))) ∙ same_coordinate x.at.items))
    ∙ ap (cond (is_eq (row_major y.at.items c)) (Some y.cell)) (sym (cell_at-put_row x rows c))
    ∙ sym (cell_at-put_row y (put_row x rows) c))
