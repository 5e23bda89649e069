-- Windows of the cells of a box, from all rows and from some of them.
use Rattle.std.proofs.Common.{◌≡◌, ℤ, ◌≤ℤ◌, int_le, ◌&&◌, Bool, true, false, cond, IsTrue, List, [], ◌∷◌, map, Option, Some, None, refl, sym, ap, ◌∙◌, arith}
use Rattle.std.specs.List.{AllByRecursion}
use Rattle.std.proofs.lemmas.Int.{ints}
use Rattle.cell_values.specs.declared.datum.Cell.{Cell}
use Rattle.cell_values.specs.declared.datum.Cell.TheVariants.{Full, Doubt}
use Rattle.cell_values.specs.declared.datum.Row.{Row}
use Rattle.cell_values.specs.declared.schema.Bounds.{Bounds}
use Rattle.cell_values.specs.declared.schema.Dimension.{Dimension}
use Rattle.array_rows.specs.Boxes.{is_between, is_inside, within, bounds_of}
use Rattle.array_rows.specs.Cellwise.{put_first, cell_wise}
use Rattle.array_rows.specs.Rows.{Coordinate}
use Rattle.array_rows.proofs.RowsLemmas.{within-cell_wise}
use Rattle.array_geom.specs.Inner.Ranges.{IsNear, AreNear, IsLow, AreLow}
use Rattle.array_geom.proofs.TestLaws.{and_parts, and_both, le_test, le_from_test}
use Rattle.logical_plan.specs.declared.parts.Aggregate.{Aggregate}
use Rattle.logical_plan.specs.declared.parts.Reach.{Reach}
use Rattle.logical_plan.specs.Groups.{aggregates_of, window, window_cell, window_rows}
use Rattle.window_overlap.specs.Cores.{window_within}
use Rattle.window_overlap.specs.Reaches.{HaveLowPlaces}

-- ---- windows of the cells of a box

kept_cells : (area : Bounds) (change : Coordinate → Cell → Option Cell) (rows : List Row) → cell_wise (λ c cell. cond (is_inside area c) (change c cell) None) rows ≡ cell_wise change (within area rows)
kept_cells area change [] = refl
kept_cells area change (row ∷ rows) = cases (is_inside area row.at.items) ∙ ap (λ (rs : List Row). cond (is_inside area row.at.items) (put_first row.at.items (change row.at.items row.cell) rs) rs) (kept_cells area change rows) ∙ back (is_inside area row.at.items)
  where
    cases : (b : Bool) → put_first row.at.items (cond b (change row.at.items row.cell) None) (cell_wise (λ c cell. cond (is_inside area c) (change c cell) None) rows)
        ≡ cond b (put_first row.at.items (change row.at.items row.cell) (cell_wise (λ c cell. cond (is_inside area c) (change c cell) None) rows)) (cell_wise (λ c cell. cond (is_inside area c) (change c cell) None) rows)
    cases true = refl
    cases false = refl

    back : (b : Bool) → cond b (put_first row.at.items (change row.at.items row.cell) (cell_wise change (within area rows))) (cell_wise change (within area rows)) ≡ cell_wise change (cond b (row ∷ within area rows) (within area rows))
    back true = refl
    back false = refl

pub windows_kept : (area : Bounds) (reach : List Reach) (gs : List Aggregate) (rows : List Row) → cell_wise (window_within area reach gs rows) rows ≡ within area (window_rows reach gs rows)
windows_kept area reach gs rows = kept_cells area (window_cell reach gs rows) rows ∙ sym (within-cell_wise area (window_cell reach gs rows) rows)

-- ---- windows within frames

-- a box in another one has the same rows there
pub same_part : (a b : Bounds) (rows : List Row) → ((c : Coordinate) → is_inside a c ≡ true → is_inside b c ≡ true) → within a (within b rows) ≡ within a rows
same_part a b [] h = refl
same_part a b (row ∷ rows) h = cases (is_inside a row.at.items) refl (is_inside b row.at.items) refl (same_part a b rows h)
  where
    cases : (p : Bool) → is_inside a row.at.items ≡ p → (q : Bool) → is_inside b row.at.items ≡ q → within a (within b rows) ≡ within a rows → within a (cond q (row ∷ within b rows) (within b rows)) ≡ cond p (row ∷ within a rows) (within a rows)
    cases true e true f r = ap (λ (v : Bool). cond v (row ∷ within a (within b rows)) (within a (within b rows))) e ∙ ap (λ (rs : List Row). row ∷ rs) r
    cases true e false f r = absurd (let g = h row.at.items e in cc)
    cases false e true f r = ap (λ (v : Bool). cond v (row ∷ within a (within b rows)) (within a (within b rows))) e ∙ r
    cases false e false f r = r

pub record IsOnSide (l h x : ℤ) (rest : Bool) : Type 0 where
  pub low : l ≤ℤ x
  pub high : x ≤ℤ h
  pub others : rest ≡ true

pub on_side : (l h x : ℤ) (rest : Bool) → (int_le l x && int_le x h && rest) ≡ true → IsOnSide l h x rest
on_side l h x rest e =
    let parts = and_parts (int_le l x && int_le x h) rest e in
    let first = and_parts (int_le l x) (int_le x h) parts.0 in
    record { low = le_from_test l x first.0; high = le_from_test x h first.1; others = parts.1 }

pub side : (l h x : ℤ) (rest : Bool) → l ≤ℤ x → x ≤ℤ h → rest ≡ true → (int_le l x && int_le x h && rest) ≡ true
side l h x rest low high r = and_both (int_le l x && int_le x h) rest (and_both (int_le l x) (int_le x h) (le_test l x low) (le_test x h high)) r

pub same_windows : (area : Bounds) (reach : List Reach) (gs : List Aggregate) (some all rows : List Row) → ((c : Coordinate) → is_inside area c ≡ true → within (window reach c) some ≡ within (window reach c) all)
    → cell_wise (window_cell reach gs some) (within area rows) ≡ cell_wise (window_cell reach gs all) (within area rows)
same_windows area reach gs some all [] h = refl
same_windows area reach gs some all (row ∷ rows) h = cases (is_inside area row.at.items) refl (same_windows area reach gs some all rows h)
  where
    same_cell : (cell : Cell) → within (window reach row.at.items) some ≡ within (window reach row.at.items) all → window_cell reach gs some row.at.items cell ≡ window_cell reach gs all row.at.items cell
    same_cell (Full vs) e = ap (λ (rs : List Row). Some (aggregates_of gs rs)) e
    same_cell (Doubt kind) e = refl

    cases : (b : Bool) → is_inside area row.at.items ≡ b → cell_wise (window_cell reach gs some) (within area rows) ≡ cell_wise (window_cell reach gs all) (within area rows) → cell_wise (window_cell reach gs some) (cond b (row ∷ within area rows) (within area rows)) ≡ cell_wise (window_cell reach gs all) (cond b (row ∷ within area rows) (within area rows))
    cases true e r = λ i. put_first row.at.items (same_cell row.cell (h row.at.items e) i) (r i)
    cases false e r = r

-- ---- numbers that stay in 64 bits

low_number : (d : Dimension) (x : ℤ) → IsNear d → d.lo ≤ℤ x → x ≤ℤ d.hi → IsLow x
low_number d x n l h = let low = n.low in let high = n.high in (omega (arith, ints, l, low), omega (arith, ints, h, high))

low_place : (dims : List Dimension) (c : Coordinate) → AreNear dims → is_between (map (λ d. d.lo) dims) (map (λ d. d.hi) dims) c ≡ true → AreLow c
low_place [] [] n b = tt
low_place [] (x ∷ c) n b = absurd cc
low_place (d ∷ dims) [] n b = tt
low_place (d ∷ dims) (x ∷ c) n b =
    let s = on_side d.lo d.hi x (is_between (map (λ d. d.lo) dims) (map (λ d. d.hi) dims) c) b in
    (low_number d x n.0 s.low s.high, low_place dims c n.1 s.others)

pub low_places : (dims : List Dimension) (rows : List Row) → AreNear dims → AllByRecursion (λ row. IsTrue (is_inside (bounds_of dims) row.at.items)) rows → HaveLowPlaces rows
low_places dims [] n b = tt
low_places dims (row ∷ rows) n b = (low_place dims row.at.items n b.0, low_places dims rows n b.1)
