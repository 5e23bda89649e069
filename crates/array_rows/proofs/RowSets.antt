-- Rows put together, and parts of rows.
use Rattle.std.proofs.Common.{◌≡◌, Bool, true, false, cond, ◌||◌, List, [], ◌∷◌, Option, Some, None, refl, sym, ap, ◌∙◌, subst}
use Rattle.std.specs.List.{list_any}
use Rattle.std.specs.declared.cmp.Ordering.{Ordering}
use Rattle.std.specs.declared.cmp.Ordering.TheVariants.{Less, Equal, Greater}
use Rattle.std.specs.Ordering.{is_eq, ordering_reverse}
use Rattle.cell_values.specs.declared.datum.Cell.{Cell}
use Rattle.cell_values.specs.declared.datum.Row.{Row}
use Rattle.cell_values.specs.declared.schema.Bounds.{Bounds}
use Rattle.array_rows.specs.Rows.{Coordinate, row_major, IsBefore, IsRising, cell_at, rows_where, put_by, put_row, in_order, put_all}
use Rattle.array_rows.specs.Boxes.{is_inside, within}
use Rattle.std.specs.Option.{option_or}
use Rattle.array_rows.proofs.RowsLemmas.{row_major_total, row_major_exact, cond_same, cond_out, same_coordinate, none_at_bound, IsBefore-trans, same_rows}

-- two tests that do not both pass can be made in either order
swap_tests : {A : Type 0} (p q : Bool) (x y z : A) → (p ≡ true → q ≡ true → ⊥) → cond p x (cond q y z) ≡ cond q y (cond p x z)
swap_tests true true x y z n = absurd (n refl refl)
swap_tests true false x y z n = refl
swap_tests false q x y z n = refl

is_equal : (t : Ordering) → is_eq t ≡ true → t ≡ Equal
is_equal Equal e = refl
is_equal Less e = cc
is_equal Greater e = cc

greater_not_equal : Greater ≡ Equal → ⊥
greater_not_equal e = cc

-- a row that is put in stands at its coordinate, and each other cell is as before
pub cell_at-put_row : (new : Row) (rows : List Row) (c : Coordinate) → cell_at (put_row new rows) c ≡ cond (is_eq (row_major new.at.items c)) (Some new.cell) (cell_at rows c)
cell_at-put_row new [] c = refl
cell_at-put_row new (row ∷ rows) c = cases (row_major new.at.items row.at.items) refl (cell_at-put_row new rows c)
  where
    cases : (t : Ordering) → row_major new.at.items row.at.items ≡ t → cell_at (put_row new rows) c ≡ cond (is_eq (row_major new.at.items c)) (Some new.cell) (cell_at rows c)
        → cell_at (put_by t new row rows (put_row new rows)) c ≡ cond (is_eq (row_major new.at.items c)) (Some new.cell) (cond (is_eq (row_major row.at.items c)) (Some row.cell) (cell_at rows c))
    cases Less e ih = refl
    cases Equal e ih =
        let same : new.at.items ≡ row.at.items = row_major_exact new.at.items row.at.items e in
        hidden (is_eq (row_major new.at.items c)) (is_eq (row_major row.at.items c)) (ap (λ a. is_eq (row_major a c)) same)
      where
        hidden : (p q : Bool) → p ≡ q → cond p (Some new.cell) (cell_at rows c) ≡ cond p (Some new.cell) (cond q (Some row.cell) (cell_at rows c))
        hidden true q h = refl
        hidden false false h = refl
        hidden false true h = cc
    cases Greater e ih =
        ap (cond (is_eq (row_major row.at.items c)) (Some row.cell)) ih
        ∙ swap_tests (is_eq (row_major row.at.items c)) (is_eq (row_major new.at.items c)) (Some row.cell) (Some new.cell) (cell_at rows c)
        (λ p q. apart (row_major_exact row.at.items c (is_equal _ p)) (row_major_exact new.at.items c (is_equal _ q)))
      where
        apart : row.at.items ≡ c → new.at.items ≡ c → ⊥
        apart p q = greater_not_equal (sym e ∙ ap (λ a. row_major a row.at.items) (q ∙ sym p) ∙ same_coordinate row.at.items)

IsBefore-put_row : (a : Coordinate) (new : Row) (rows : List Row) → row_major a new.at.items ≡ Less → IsBefore a rows → IsBefore a (put_row new rows)
IsBefore-put_row a new [] l b = (l, tt)
IsBefore-put_row a new (row ∷ rows) l b = by_cases (row_major new.at.items row.at.items) (IsBefore-put_row a new rows l b.1)
  where
    by_cases : (t : Ordering) → IsBefore a (put_row new rows) → IsBefore a (put_by t new row rows (put_row new rows))
    by_cases Less r = (l, b)
    by_cases Equal r = (l, b.1)
    by_cases Greater r = (b.0, r)

-- rows still rise after a row is put in
pub IsRising-put_row : (new : Row) (rows : List Row) → IsRising rows → IsRising (put_row new rows)
IsRising-put_row new [] r = (tt, tt)
IsRising-put_row new (row ∷ rows) r = by_cases (row_major new.at.items row.at.items) refl (IsRising-put_row new rows r.1)
  where
    by_cases : (t : Ordering) → row_major new.at.items row.at.items ≡ t → IsRising (put_row new rows) → IsRising (put_by t new row rows (put_row new rows))
    by_cases Less e ih = ((e, IsBefore-trans new.at.items row.at.items rows e r.0), r)
    by_cases Equal e ih = (subst (λ a. IsBefore a rows) (sym (row_major_exact new.at.items row.at.items e)) r.0, r.1)
    by_cases Greater e ih = (IsBefore-put_row row.at.items new rows (row_major_total.antisymm row.at.items new.at.items ∙ ap ordering_reverse e) r.0, ih)

pub IsRising-in_order : (rows : List Row) → IsRising (in_order rows)
IsRising-in_order [] = tt
IsRising-in_order (row ∷ rows) = IsRising-put_row row (in_order rows) (IsRising-in_order rows)

pub IsRising-put_all : (a b : List Row) → IsRising b → IsRising (put_all a b)
IsRising-put_all [] b r = r
IsRising-put_all (row ∷ a) b r = IsRising-put_row row (put_all a b) (IsRising-put_all a b r)

-- of rows that are put together the first have the cell, where they have one
pub cell_at-put_all : (a b : List Row) (c : Coordinate) → cell_at (put_all a b) c ≡ option_or (cell_at a c) (cell_at b c)
cell_at-put_all [] b c = refl
cell_at-put_all (row ∷ a) b c =
    cell_at-put_row row (put_all a b) c
    ∙ ap (cond (is_eq (row_major row.at.items c)) (Some row.cell)) (cell_at-put_all a b c)
    ∙ sym (cond_out (λ o. option_or o (cell_at b c)) (is_eq (row_major row.at.items c)) (Some row.cell) (cell_at a c))

-- the cells at coordinates that pass a test
pub cell_at-rows_where : (test : Coordinate → Bool) (rows : List Row) (c : Coordinate) → cell_at (rows_where test rows) c ≡ cond (test c) (cell_at rows c) None
cell_at-rows_where test [] c = sym (cond_same (test c) None)
cell_at-rows_where test (row ∷ rows) c =
    cond_out (λ rs. cell_at rs c) (test row.at.items) (row ∷ rows_where test rows) (rows_where test rows)
    ∙ ap (λ z. cond (test row.at.items) (cond (is_eq (row_major row.at.items c)) (Some row.cell) z) z) (cell_at-rows_where test rows c)
    ∙ tests (test row.at.items) (test c) (is_eq (row_major row.at.items c)) (λ e. ap test (row_major_exact row.at.items c (is_equal _ e)))
  where
    tests : (p q t : Bool) → (t ≡ true → p ≡ q) → cond p (cond t (Some row.cell) (cond q (cell_at rows c) None)) (cond q (cell_at rows c) None) ≡ cond q (cond t (Some row.cell) (cell_at rows c)) None
    tests p q false h = cond_same p _
    tests true true true h = refl
    tests false false true h = refl
    tests true false true h = let f : true ≡ false = h refl in cc
    tests false true true h = let f : false ≡ true = h refl in cc

pub cell_at-within : (area : Bounds) (rows : List Row) (c : Coordinate) → cell_at (within area rows) c ≡ cond (is_inside area c) (cell_at rows c) None
cell_at-within area = cell_at-rows_where (is_inside area)

IsBefore-rows_where : (a : Coordinate) (test : Coordinate → Bool) (rows : List Row) → IsBefore a rows → IsBefore a (rows_where test rows)
IsBefore-rows_where a test [] b = tt
IsBefore-rows_where a test (row ∷ rows) b = keep (test row.at.items) (IsBefore-rows_where a test rows b.1)
  where
    keep : (p : Bool) → IsBefore a (rows_where test rows) → IsBefore a (cond p (row ∷ rows_where test rows) (rows_where test rows))
    keep true r = (b.0, r)
    keep false r = r

pub IsRising-rows_where : (test : Coordinate → Bool) (rows : List Row) → IsRising rows → IsRising (rows_where test rows)
IsRising-rows_where test [] r = tt
IsRising-rows_where test (row ∷ rows) r = keep (test row.at.items) (IsRising-rows_where test rows r.1)
  where
    keep : (p : Bool) → IsRising (rows_where test rows) → IsRising (cond p (row ∷ rows_where test rows) (rows_where test rows))
    keep true i = (IsBefore-rows_where row.at.items test rows r.0, i)
    keep false i = i

-- the rows at some coordinates of rows that are put together
pub rows_where-put_all : (test : Coordinate → Bool) (a b : List Row) → IsRising b → rows_where test (put_all a b) ≡ put_all (rows_where test a) (rows_where test b)
rows_where-put_all test a b r =
    same_rows _ _ (IsRising-rows_where test (put_all a b) (IsRising-put_all a b r)) (IsRising-put_all (rows_where test a) (rows_where test b) (IsRising-rows_where test b r)) (λ c.
    cell_at-rows_where test (put_all a b) c
    ∙ ap (λ o. cond (test c) o None) (cell_at-put_all a b c)
    ∙ both (test c) (cell_at a c) (cell_at b c)
    ∙ ap (λ o. option_or o (cond (test c) (cell_at b c) None)) (sym (cell_at-rows_where test a c))
    ∙ ap (option_or (cell_at (rows_where test a) c)) (sym (cell_at-rows_where test b c))
    ∙ sym (cell_at-put_all (rows_where test a) (rows_where test b) c))
  where
    both : (t : Bool) (o p : Option Cell) → cond t (option_or o p) None ≡ option_or (cond t o None) (cond t p None)
    both true o p = refl
    both false o p = refl

-- rows put in order have the cells that they had, the first at each coordinate
pub cell_at-in_order : (rows : List Row) (c : Coordinate) → cell_at (in_order rows) c ≡ cell_at rows c
cell_at-in_order [] c = refl
cell_at-in_order (row ∷ rows) c = cell_at-put_row row (in_order rows) c ∙ ap (cond (is_eq (row_major row.at.items c)) (Some row.cell)) (cell_at-in_order rows c)

-- ---- rows from their parts

-- the rows of several boxes, put together
abbrev pub gathered : List Bounds → List Row → List Row
gathered [] rows = []
gathered (area ∷ areas) rows = put_all (within area rows) (gathered areas rows)

abbrev pub is_covered : List Bounds → Coordinate → Bool
is_covered areas c = list_any (λ area. is_inside area c) areas

cell_at-gathered : (areas : List Bounds) (rows : List Row) (c : Coordinate) → cell_at (gathered areas rows) c ≡ cond (is_covered areas c) (cell_at rows c) None
cell_at-gathered [] rows c = refl
cell_at-gathered (area ∷ areas) rows c =
    cell_at-put_all (within area rows) (gathered areas rows) c
    ∙ ap (λ o. option_or o (cell_at (gathered areas rows) c)) (cell_at-within area rows c)
    ∙ ap (λ o. option_or (cond (is_inside area c) (cell_at rows c) None) o) (cell_at-gathered areas rows c)
    ∙ tests (is_inside area c) (is_covered areas c) (cell_at rows c)
  where
    tests : (p q : Bool) (o : Option Cell) → option_or (cond p o None) (cond q o None) ≡ cond (p || q) o None
    tests true true None = refl
    tests true true (Some x) = refl
    tests true false None = refl
    tests true false (Some x) = refl
    tests false q o = refl

IsRising-gathered : (areas : List Bounds) (rows : List Row) → IsRising (gathered areas rows)
IsRising-gathered [] rows = tt
IsRising-gathered (area ∷ areas) rows = IsRising-put_all (within area rows) (gathered areas rows) (IsRising-gathered areas rows)

-- the rows of boxes that cover every row are all rows, however the boxes lie
pub gathered_all : (areas : List Bounds) (rows : List Row) → IsRising rows → ((c : Coordinate) → is_covered areas c ≡ false → cell_at rows c ≡ None) → gathered areas rows ≡ rows
gathered_all areas rows r cover = same_rows (gathered areas rows) rows (IsRising-gathered areas rows) r (λ c. cell_at-gathered areas rows c ∙ tests c (is_covered areas c) refl)
  where
    tests : (c : Coordinate) (p : Bool) → is_covered areas c ≡ p → cond p (cell_at rows c) None ≡ cell_at rows c
    tests c true e = refl
    tests c false e = sym (cover c e)

-- ---- merging two rising lists, head by head

IsBefore-put_all : (c : Coordinate) (a b : List Row) → IsBefore c a → IsBefore c b → IsBefore c (put_all a b)
IsBefore-put_all c [] b p q = q
IsBefore-put_all c (row ∷ a) b p q = IsBefore-put_row c row (put_all a b) p.0 (IsBefore-put_all c a b p.1 q)

-- the first of the left comes first
pub put_all_left_first : (x : Row) (a : List Row) (y : Row) (b : List Row) → IsRising (x ∷ a) → IsRising (y ∷ b) → row_major x.at.items y.at.items ≡ Less → put_all (x ∷ a) (y ∷ b) ≡ x ∷ put_all a (y ∷ b)
put_all_left_first x a y b ra rb l =
    same_rows _ _ (IsRising-put_all (x ∷ a) (y ∷ b) rb)
    (IsBefore-put_all x.at.items a (y ∷ b) ra.0 (l, IsBefore-trans x.at.items y.at.items b l rb.0), IsRising-put_all a (y ∷ b) rb)
    (λ c. cell_at-put_all (x ∷ a) (y ∷ b) c
    ∙ cond_out (λ o. option_or o (cell_at (y ∷ b) c)) (is_eq (row_major x.at.items c)) (Some x.cell) (cell_at a c)
    ∙ ap (cond (is_eq (row_major x.at.items c)) (Some x.cell)) (sym (cell_at-put_all a (y ∷ b) c)))

-- the first of the right comes first
pub put_all_right_first : (x : Row) (a : List Row) (y : Row) (b : List Row) → IsRising (x ∷ a) → IsRising (y ∷ b) → row_major y.at.items x.at.items ≡ Less → put_all (x ∷ a) (y ∷ b) ≡ y ∷ put_all (x ∷ a) b
put_all_right_first x a y b ra rb l =
    same_rows _ _ (IsRising-put_all (x ∷ a) (y ∷ b) rb)
    (IsBefore-put_all y.at.items (x ∷ a) b (l, IsBefore-trans y.at.items x.at.items a l ra.0) rb.0, IsRising-put_all (x ∷ a) b rb.1)
    (λ c. cell_at-put_all (x ∷ a) (y ∷ b) c
    ∙ cases c (row_major y.at.items c) refl
    ∙ ap (cond (is_eq (row_major y.at.items c)) (Some y.cell)) (sym (cell_at-put_all (x ∷ a) b c)))
  where
    cases : (c : Coordinate) (t : Ordering) → row_major y.at.items c ≡ t → option_or (cell_at (x ∷ a) c) (cond (is_eq (row_major y.at.items c)) (Some y.cell) (cell_at b c)) ≡ cond (is_eq (row_major y.at.items c)) (Some y.cell) (option_or (cell_at (x ∷ a) c) (cell_at b c))
    cases c Less e = ap (λ o. option_or (cell_at (x ∷ a) c) (cond (is_eq o) (Some y.cell) (cell_at b c))) e ∙ ap (λ o. cond (is_eq o) (Some y.cell) (option_or (cell_at (x ∷ a) c) (cell_at b c))) (sym e)
    cases c Greater e = ap (λ o. option_or (cell_at (x ∷ a) c) (cond (is_eq o) (Some y.cell) (cell_at b c))) e ∙ ap (λ o. cond (is_eq o) (Some y.cell) (option_or (cell_at (x ∷ a) c) (cell_at b c))) (sym e)
    cases c Equal e =
        let same : y.at.items ≡ c = row_major_exact y.at.items c e in
        let none : cell_at (x ∷ a) c ≡ None = none_at_bound c (x ∷ a) (subst (λ z. IsBefore z (x ∷ a)) same (l, IsBefore-trans y.at.items x.at.items a l ra.0)) in
        ap (λ o. option_or o (cond (is_eq (row_major y.at.items c)) (Some y.cell) (cell_at b c))) none
        ∙ ap (λ o. cond (is_eq o) (Some y.cell) (cell_at b c)) e
        ∙ ap (λ o. cond (is_eq o) (Some y.cell) (option_or (cell_at (x ∷ a) c) (cell_at b c))) (sym e)
