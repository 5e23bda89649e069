-- Laws of rows: the order, look-ups, and operators that go cell by cell.
use Rattle.std.proofs.Common.{◌≡◌, Bool, true, false, cond, List, [], ◌∷◌, Option, Some, None, refl, sym, ap, ◌∙◌, subst}
use Rattle.std.specs.Option.{option_and_then}
use Rattle.std.specs.declared.cmp.Ordering.{Ordering}
use Rattle.std.specs.declared.cmp.Ordering.TheVariants.{Less, Equal, Greater}
use Rattle.std.specs.Ordering.{is_eq, ordering_reverse}
use Rattle.std.specs.Cmp.{IsTotalOrder}
use Rattle.std.specs.FinMap.{slice_cmp-IsAntisymmetric, int_cmp-IsAntisymmetric}
use Rattle.std.proofs.lemmas.Cmp.{lists_total, int_cmp_total, tied_itself}
use Rattle.cell_values.specs.declared.datum.Cell.{Cell}
use Rattle.cell_values.specs.declared.datum.Row.{Row}
use Rattle.cell_values.specs.declared.schema.Bounds.{Bounds}
use Rattle.array_rows.specs.Rows.{Coordinate, row_major, IsBefore, IsRising, cell_at, rows_where}
use Rattle.array_rows.specs.Cellwise.{put_first, cell_wise}
use Rattle.array_rows.specs.Boxes.{is_inside, within}

pub row_major_total : IsTotalOrder row_major
row_major_total = lists_total int_cmp_total

-- coordinates that compare alike are one
pub row_major_exact : (a b : Coordinate) → row_major a b ≡ Equal → a ≡ b
row_major_exact = slice_cmp-IsAntisymmetric int_cmp-IsAntisymmetric

-- a choice of two equal lists
pub cond_same : {A : Type 0} (b : Bool) (x : A) → cond b x x ≡ x
cond_same true x = refl
cond_same false x = refl

-- a function of a choice
pub cond_out : {A B : Type 0} (f : A → B) (b : Bool) (x y : A) → f (cond b x y) ≡ cond b (f x) (f y)
cond_out f true x y = refl
cond_out f false x y = refl

rows_where-put_first : (test : Coordinate → Bool) (at : Coordinate) (o : Option Cell) (rows : List Row) → rows_where test (put_first at o rows) ≡ cond (test at) (put_first at o (rows_where test rows)) (rows_where test rows)
rows_where-put_first test at None rows = sym (cond_same (test at) (rows_where test rows))
rows_where-put_first test at (Some cell) rows = refl

-- to keep the rows at some coordinates and to change each cell can be done in either order
pub rows_where-cell_wise : (test : Coordinate → Bool) (change : Coordinate → Cell → Option Cell) (rows : List Row) → rows_where test (cell_wise change rows) ≡ cell_wise change (rows_where test rows)
rows_where-cell_wise test change [] = refl
rows_where-cell_wise test change (row ∷ rows) =
    rows_where-put_first test row.at.items (change row.at.items row.cell) (cell_wise change rows)
    ∙ ap (λ t. cond (test row.at.items) (put_first row.at.items (change row.at.items row.cell) t) t) (rows_where-cell_wise test change rows)
    ∙ sym (cond_out (cell_wise change) (test row.at.items) (row ∷ rows_where test rows) (rows_where test rows))

pub within-cell_wise : (area : Bounds) (change : Coordinate → Cell → Option Cell) (rows : List Row) → within area (cell_wise change rows) ≡ cell_wise change (within area rows)
within-cell_wise area = rows_where-cell_wise (is_inside area)

IsBefore-put_first : (a at : Coordinate) (o : Option Cell) (rows : List Row) → row_major a at ≡ Less → IsBefore a rows → IsBefore a (put_first at o rows)
IsBefore-put_first a at None rows l b = b
IsBefore-put_first a at (Some cell) rows l b = (l, b)

IsBefore-cell_wise : (a : Coordinate) (change : Coordinate → Cell → Option Cell) (rows : List Row) → IsBefore a rows → IsBefore a (cell_wise change rows)
IsBefore-cell_wise a change [] b = b
IsBefore-cell_wise a change (row ∷ rows) b = IsBefore-put_first a row.at.items (change row.at.items row.cell) (cell_wise change rows) b.0 (IsBefore-cell_wise a change rows b.1)

IsRising-put_first : (at : Coordinate) (o : Option Cell) (rows : List Row) → IsBefore at rows → IsRising rows → IsRising (put_first at o rows)
IsRising-put_first at None rows b r = r
IsRising-put_first at (Some cell) rows b r = (b, r)

-- rows still rise after a change cell by cell
pub IsRising-cell_wise : (change : Coordinate → Cell → Option Cell) (rows : List Row) → IsRising rows → IsRising (cell_wise change rows)
IsRising-cell_wise change [] r = r
IsRising-cell_wise change (row ∷ rows) r = IsRising-put_first row.at.items (change row.at.items row.cell) (cell_wise change rows) (IsBefore-cell_wise row.at.items change rows r.0) (IsRising-cell_wise change rows r.1)

-- ---- look-ups

pub same_coordinate : (c : Coordinate) → row_major c c ≡ Equal
same_coordinate c = tied_itself row_major_total c

-- nothing stands at a coordinate that the rows come after
pub none_at_bound : (a : Coordinate) (rows : List Row) → IsBefore a rows → cell_at rows a ≡ None
none_at_bound a [] b = refl
none_at_bound a (row ∷ rows) b =
    let back : row_major row.at.items a ≡ Greater = row_major_total.antisymm row.at.items a ∙ ap ordering_reverse b.0 in
    ap (λ o. cond (is_eq o) (Some row.cell) (cell_at rows a)) back ∙ none_at_bound a rows b.1

pub IsBefore-trans : (a b : Coordinate) (rows : List Row) → row_major a b ≡ Less → IsBefore b rows → IsBefore a rows
IsBefore-trans a b [] l h = tt
IsBefore-trans a b (row ∷ rows) l h = (row_major_total.trans a b row.at.items l h.0, IsBefore-trans a b rows l h.1)

-- the first of rising rows is found at its own coordinate
pub cell_at-first : (row : Row) (rows : List Row) → cell_at (row ∷ rows) row.at.items ≡ Some row.cell
cell_at-first row rows = ap (λ o. cond (is_eq o) (Some row.cell) (cell_at rows row.at.items)) (same_coordinate row.at.items)

-- the first of two, where there is one
abbrev first_of_two : Option Cell → Option Cell → Option Cell
first_of_two None d = d
first_of_two (Some x) d = Some x

first_of_two-None : (o : Option Cell) → first_of_two o None ≡ o
first_of_two-None None = refl
first_of_two-None (Some x) = refl

cell_at-put_first : (at : Coordinate) (o : Option Cell) (rows : List Row) (c : Coordinate) → cell_at (put_first at o rows) c ≡ cond (is_eq (row_major at c)) (first_of_two o (cell_at rows c)) (cell_at rows c)
cell_at-put_first at None rows c = sym (cond_same _ _)
cell_at-put_first at (Some cell) rows c = refl

-- an operator that goes cell by cell, at a coordinate
pub cell_at-cell_wise : (change : Coordinate → Cell → Option Cell) (rows : List Row) (c : Coordinate) → IsRising rows → cell_at (cell_wise change rows) c ≡ option_and_then (change c) (cell_at rows c)
cell_at-cell_wise change [] c r = refl
cell_at-cell_wise change (row ∷ rows) c r =
    cell_at-put_first row.at.items (change row.at.items row.cell) (cell_wise change rows) c
    ∙ ap (λ z. cond (is_eq (row_major row.at.items c)) (first_of_two (change row.at.items row.cell) z) z) (cell_at-cell_wise change rows c r.1)
    ∙ cases (row_major row.at.items c) refl
  where
    cases : (t : Ordering) → row_major row.at.items c ≡ t → cond (is_eq t) (first_of_two (change row.at.items row.cell) (option_and_then (change c) (cell_at rows c))) (option_and_then (change c) (cell_at rows c)) ≡ option_and_then (change c) (cond (is_eq t) (Some row.cell) (cell_at rows c))
    cases Less e = refl
    cases Greater e = refl
    cases Equal e =
        let same : row.at.items ≡ c = row_major_exact row.at.items c e in
        let none : cell_at rows c ≡ None = none_at_bound c rows (subst (λ a. IsBefore a rows) same r.0) in
        ap (λ z. first_of_two (change row.at.items row.cell) (option_and_then (change c) z)) none ∙ first_of_two-None (change row.at.items row.cell) ∙ ap (λ a. change a row.cell) same

-- ---- rows with the same cells are the same rows

no_less_cells : {o : Option Cell} {x : Cell} → None ≡ o → o ≡ Some x → ⊥
no_less_cells e f = cc

same_some : {x y : Cell} → Some x ≡ Some y → x ≡ y
same_some e = cc

same_row : (r s : Row) → r.at.items ≡ s.at.items → r.cell ≡ s.cell → r ≡ s
same_row r s e f = λ i. record { at = record { items = e i }; cell = f i }

-- the look-ups in the rest are those in the whole but at the first row's coordinate
rest_alike : (a : Coordinate) (x y : Cell) (rs ss : List Row) (c : Coordinate) → IsBefore a rs → IsBefore a ss → cond (is_eq (row_major a c)) (Some x) (cell_at rs c) ≡ cond (is_eq (row_major a c)) (Some y) (cell_at ss c) → cell_at rs c ≡ cell_at ss c
rest_alike a x y rs ss c br bs h = cases (row_major a c) refl h
  where
    cases : (t : Ordering) → row_major a c ≡ t → cond (is_eq t) (Some x) (cell_at rs c) ≡ cond (is_eq t) (Some y) (cell_at ss c) → cell_at rs c ≡ cell_at ss c
    cases Less e k = k
    cases Greater e k = k
    cases Equal e k =
        let same : a ≡ c = row_major_exact a c e in
        none_at_bound c rs (subst (λ z. IsBefore z rs) same br) ∙ sym (none_at_bound c ss (subst (λ z. IsBefore z ss) same bs))

-- rows with the same cell at each coordinate are the same rows
pub same_rows : (a b : List Row) → IsRising a → IsRising b → ((c : Coordinate) → cell_at a c ≡ cell_at b c) → a ≡ b
same_rows [] [] ra rb h = refl
same_rows [] (s ∷ ss) ra rb h = absurd (no_less_cells (h s.at.items) (cell_at-first s ss))
same_rows (r ∷ rs) [] ra rb h = absurd (no_less_cells (sym (h r.at.items)) (cell_at-first r rs))
same_rows (r ∷ rs) (s ∷ ss) ra rb h = cases (row_major r.at.items s.at.items) refl (same_rows rs ss ra.1 rb.1)
  where
    cases : (t : Ordering) → row_major r.at.items s.at.items ≡ t → (((c : Coordinate) → cell_at rs c ≡ cell_at ss c) → rs ≡ ss) → r ∷ rs ≡ s ∷ ss
    cases Less e ih = absurd (no_less_cells (sym (h r.at.items ∙ none_at_bound r.at.items (s ∷ ss) (e, IsBefore-trans r.at.items s.at.items ss e rb.0))) (cell_at-first r rs))
    cases Greater e ih =
        let back : row_major s.at.items r.at.items ≡ Less = row_major_total.antisymm s.at.items r.at.items ∙ ap ordering_reverse e in
        absurd (no_less_cells (sym (none_at_bound s.at.items (r ∷ rs) (back, IsBefore-trans s.at.items r.at.items rs back ra.0)) ∙ h s.at.items) (cell_at-first s ss))
    cases Equal e ih =
        let same : r.at.items ≡ s.at.items = row_major_exact r.at.items s.at.items e in
        let alike : r.cell ≡ s.cell = same_some (sym (cell_at-first r rs) ∙ h r.at.items ∙ ap (cell_at (s ∷ ss)) same ∙ cell_at-first s ss) in
        let rests : rs ≡ ss = ih (λ c. rest_alike r.at.items r.cell s.cell rs ss c ra.0 (subst (λ z. IsBefore z ss) (sym same) rb.0) (h c ∙ ap (λ z. cond (is_eq (row_major z c)) (Some s.cell) (cell_at ss c)) (sym same))) in
        λ i. same_row r s same alike i ∷ rests i
