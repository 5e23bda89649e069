-- Cells by their places in a grid: lists of them, and two that are put together.
use Rattle.std.proofs.Common.{◌≡◌, ℕ, zero, suc, ◌+◌, ◌-◌, ◌<◌, ◌≤◌, false, ◌⊎◌, inl, inr, ◌↔◌, IsTrue, List, [], ◌∷◌, ◌++◌, length, get_or, take, drop, map, refl, sym, ap, ◌∙◌, subst, arith}
use Rattle.std.specs.List.{AllByRecursion}
use Rattle.std.specs.Ordering.{ordering_reverse}
use Rattle.std.specs.declared.cmp.Ordering.TheVariants.{Less, Equal, Greater}
use Rattle.std.proofs.lemmas.List.{drop_more, drop_all}
use Rattle.cell_values.specs.declared.datum.Row.{Row}
use Rattle.array_rows.specs.Rows.{Coordinate, IsRising, put_all, row_major}
use Rattle.array_rows.proofs.RowsLemmas.{row_major_total, same_coordinate}
use Rattle.array_geom.specs.declared.grid.Grid.{Grid}
use Rattle.array_geom.specs.Geometry.{coordinate_in}
use Rattle.array_geom.specs.Inner.Ranges.{IsGrid}
use Rattle.chunk_cells.proofs.MergeLaws.{all_appended, at_end, left_moves, more_merged, none_after, none_before, right_goes, right_moves}
use Rattle.chunk_cells.proofs.OrderLaws.{coordinate_rises}
use Rattle.area_cells.specs.declared.finding.Found.{Found}
use Rattle.area_cells.specs.Found.{AreFound, IsFound, found_row, found_rows}
use Rattle.area_cells.specs.Inner.Merged.{Goes}

pub rows_append : (grid : Grid) (a b : List Found) → found_rows grid (a ++ b) ≡ found_rows grid a ++ found_rows grid b
rows_append grid [] b = refl
rows_append grid (f ∷ a) b = ap (λ (rs : List Row). found_row grid f ∷ rs) (rows_append grid a b)

pub all_append : (grid : Grid) (a b : List Found) → AllByRecursion (IsFound grid) a → AllByRecursion (IsFound grid) b → AllByRecursion (IsFound grid) (a ++ b)
all_append grid [] b p q = q
all_append grid (f ∷ a) b p q = (p.0, all_append grid a b p.1 q)

pub all_drop : (grid : Grid) (n : ℕ) (xs : List Found) → AllByRecursion (IsFound grid) xs → AllByRecursion (IsFound grid) (drop n xs)
all_drop grid zero xs a = a
all_drop grid (suc n) [] a = tt
all_drop grid (suc n) (x ∷ xs) a = all_drop grid n xs a.1

-- that of an index is one of them
pub found_at : (grid : Grid) (xs : List Found) (i : ℕ) (f : Found) → AllByRecursion (IsFound grid) xs → i < length xs → f ≡ get_or xs i f → IsFound grid f
found_at grid [] i f a l e = absurd (omega (arith, l))
found_at grid (x ∷ xs) zero f a l e = subst (IsFound grid) (sym e) a.0
found_at grid (x ∷ xs) (suc i) f a l e = found_at grid xs i f a.1 (omega (arith, l)) e

-- what is left begins with it
pub left_at : (grid : Grid) (xs : List Found) (i : ℕ) (f : Found) → i < length xs → f ≡ get_or xs i f → found_rows grid (drop i xs) ≡ found_row grid f ∷ found_rows grid (drop (i + 1) xs)
left_at grid xs i f l e = ap (found_rows grid) (drop_more xs i f l) ∙ ap (λ (x : Found). found_row grid x ∷ found_rows grid (drop (i + 1) xs)) (sym e)

pub rises : (grid : Grid) (f g : Found) → IsGrid grid → IsFound grid g → f.position < g.position → row_major (coordinate_in grid.low.items grid.lengths.items f.position) (coordinate_in grid.low.items grid.lengths.items g.position) ≡ Less
rises grid f g is there less = coordinate_rises grid.low.items grid.lengths.items f.position g.position is.lengths is.each less there.inside

rows_one : (grid : Grid) (made made' : List Found) (f : Found) (rows left : List Row) → made' ≡ made ++ f ∷ [] → rows ≡ found_row grid f ∷ left → found_rows grid made' ≡ found_rows grid made ++ take 1 rows
rows_one grid made made' f rows left e l =
    ap (found_rows grid) e ∙ rows_append grid made (f ∷ []) ∙ ap (λ (rs : List Row). found_rows grid made ++ take 1 rs) (sym l)

all_one : (grid : Grid) (made made' : List Found) (f : Found) → made' ≡ made ++ f ∷ [] → IsFound grid f → AllByRecursion (IsFound grid) made → AllByRecursion (IsFound grid) made'
all_one grid made made' f e is all = subst (AllByRecursion (IsFound grid)) (sym e) (all_append grid made (f ∷ []) all (is, tt))

-- ---- the three moves

pub goes_left : (grid : Grid) (left right made made' : List Found) (i j : ℕ) (f g : Found) → IsGrid grid → AllByRecursion (IsFound grid) left → AllByRecursion (IsFound grid) right → i < length left → j < length right
    → f ≡ get_or left i f → g ≡ get_or right j g → f.position < g.position → made' ≡ made ++ f ∷ [] → Goes grid left right made i j made' (i + 1) j
goes_left grid left right made made' i j f g is all_left all_right li lj e h less m =
    let here = left_at grid left i f li e in
    let there = left_at grid right j g lj h in
    record {
      each = all_one grid made made' f m (found_at grid left i f all_left li e);
      rows =
          left_moves (found_rows grid made) (found_rows grid made') (found_rows grid (drop i left)) (found_rows grid (drop (i + 1) left)) (found_rows grid (drop j right)) (found_row grid f) (found_row grid g)
          (found_rows grid (drop (i + 1) left)) (found_rows grid (drop (j + 1) right)) here there (rises grid f g is (found_at grid right j g all_right lj h) less)
          (rows_one grid made made' f (found_rows grid (drop i left)) (found_rows grid (drop (i + 1) left)) m here) (sym (ap (drop 1) here));
    }

pub goes_right : (grid : Grid) (left right made made' : List Found) (i j : ℕ) (f g : Found) → IsGrid grid → AllByRecursion (IsFound grid) left → AllByRecursion (IsFound grid) right → i < length left → j < length right
    → f ≡ get_or left i f → g ≡ get_or right j g → g.position < f.position → made' ≡ made ++ g ∷ [] → Goes grid left right made i j made' i (j + 1)
goes_right grid left right made made' i j f g is all_left all_right li lj e h less m =
    let here = left_at grid left i f li e in
    let there = left_at grid right j g lj h in
    let p = coordinate_in grid.low.items grid.lengths.items f.position in
    let q = coordinate_in grid.low.items grid.lengths.items g.position in
    record {
      each = all_one grid made made' g m (found_at grid right j g all_right lj h);
      rows =
          right_moves (found_rows grid made) (found_rows grid made') (found_rows grid (drop i left)) (found_rows grid (drop j right)) (found_rows grid (drop (j + 1) right)) (found_row grid f) (found_row grid g)
          (found_rows grid (drop (i + 1) left)) (found_rows grid (drop (j + 1) right)) here there (row_major_total.antisymm p q ∙ ap ordering_reverse (rises grid g f is (found_at grid left i f all_left li e) less))
          (rows_one grid made made' g (found_rows grid (drop j right)) (found_rows grid (drop (j + 1) right)) m there) (sym (ap (drop 1) there));
    }

pub goes_past : (grid : Grid) (left right made : List Found) (i j : ℕ) (f g : Found) → i < length left → j < length right → f ≡ get_or left i f → g ≡ get_or right j g → f.position ≡ g.position → Goes grid left right made i j made i (j + 1)
goes_past grid left right made i j f g li lj e h same =
    let p = coordinate_in grid.low.items grid.lengths.items f.position in
    record {
      each = λ a. a;
      rows =
          right_goes (found_rows grid made) (found_rows grid (drop i left)) (found_rows grid (drop j right)) (found_rows grid (drop (j + 1) right)) (found_row grid f) (found_row grid g)
          (found_rows grid (drop (i + 1) left)) (found_rows grid (drop (j + 1) right)) (left_at grid left i f li e) (left_at grid right j g lj h)
          (ap (λ (n : ℕ). row_major p (coordinate_in grid.low.items grid.lengths.items n)) (sym same) ∙ same_coordinate p) refl;
    }

pub begun : (grid : Grid) (left right made : List Found) → made ≡ [] → Goes grid left right [] 0 0 made 0 0
begun grid left right made e = record {
  each = λ a. subst (AllByRecursion (IsFound grid)) (sym e) tt;
  rows = λ rl rr. record { left_rises = rl; right_rises = rr; same = ap (λ (fs : List Found). found_rows grid fs ++ put_all (found_rows grid left) (found_rows grid right)) e };
}

pub goes_on : (grid : Grid) (left right a b c : List Found) (i j i' j' i'' j'' : ℕ) → Goes grid left right a i j b i' j' → Goes grid left right b i' j' c i'' j'' → Goes grid left right a i j c i'' j''
goes_on grid left right a b c i j i' j' i'' j'' f g = record {
  each = λ all. g.each (f.each all);
  rows = more_merged (found_rows grid a) (found_rows grid b) (found_rows grid c) (found_rows grid (drop i left)) (found_rows grid (drop i' left)) (found_rows grid (drop i'' left)) (found_rows grid (drop j right)) (found_rows grid (drop j' right)) (found_rows grid (drop j'' right)) f.rows g.rows;
}

-- ---- the end

pub ended : (grid : Grid) (xs : List Found) (i : ℕ) → length xs ≤ i → found_rows grid (drop i xs) ≡ []
ended grid xs i l = ap (found_rows grid) (drop_all i xs l)

pub none_both : (left right : List Row) → (left ≡ []) ⊎ (right ≡ []) → IsTrue false ↔ (0 < length left) × (0 < length right)
none_both left right (inl e) = (λ t. absurd (no t), λ both. let f = ap length e in absurd (omega (arith, both.0, f)))
  where
    no : IsTrue false → ⊥
    no t = cc
none_both left right (inr e) = (λ t. absurd (no t), λ both. let f = ap length e in absurd (omega (arith, both.1, f)))
  where
    no : IsTrue false → ⊥
    no t = cc

pub are_merged : (grid : Grid) (left right made made1 made2 : List Found) (i j : ℕ) → AllByRecursion (IsFound grid) left → AllByRecursion (IsFound grid) right → IsRising (found_rows grid left) → IsRising (found_rows grid right)
    → Goes grid left right [] 0 0 made i j → (length left ≤ i) ⊎ (length right ≤ j) → made1 ≡ made ++ drop i left → made2 ≡ made1 ++ drop j right → AreFound grid (put_all (found_rows grid left) (found_rows grid right)) made2
are_merged grid left right made made1 made2 i j all_left all_right rl rr goes end e f =
    let merged = goes.rows rl rr in
    record {
      each = subst (AllByRecursion (IsFound grid)) (sym f) (all_append grid made1 (drop j right) (subst (AllByRecursion (IsFound grid)) (sym e) (all_append grid made (drop i left) (goes.each tt) (all_drop grid i left all_left))) (all_drop grid j right all_right));
      rows_are =
          at_end false (found_rows grid made) (found_rows grid (drop i left)) (found_rows grid (drop j right)) (put_all (found_rows grid left) (found_rows grid right)) (found_rows grid made1) (found_rows grid made2) refl
          (none_both (found_rows grid (drop i left)) (found_rows grid (drop j right)) (which end)) merged.left_rises merged.same (ap (found_rows grid) e ∙ rows_append grid made (drop i left)) (ap (found_rows grid) f ∙ rows_append grid made1 (drop j right));
    }
  where
    which : (length left ≤ i) ⊎ (length right ≤ j) → (found_rows grid (drop i left) ≡ []) ⊎ (found_rows grid (drop j right) ≡ [])
    which (inl l) = inl (ended grid left i l)
    which (inr l) = inr (ended grid right j l)

-- ---- one behind the other

long : (grid : Grid) (xs : List Found) → length (found_rows grid xs) ≡ length xs
long grid [] = refl
long grid (x ∷ xs) = ap suc (long grid xs)

row_at : (grid : Grid) (xs : List Found) (i : ℕ) (f : Found) → i < length xs → f ≡ get_or xs i f → found_row grid f ≡ get_or (found_rows grid xs) i (found_row grid f)
row_at grid [] i f l e = absurd (omega (arith, l))
row_at grid (x ∷ xs) zero f l e = ap (found_row grid) e
row_at grid (x ∷ xs) (suc i) f l e = row_at grid xs i f (omega (arith, l)) e

pub none_left : (grid : Grid) (left right : List Found) → length left ≡ 0 → found_rows grid left ++ found_rows grid right ≡ put_all (found_rows grid left) (found_rows grid right)
none_left grid left right l = none_before (found_rows grid left) (found_rows grid right) (long grid left ∙ l)

pub none_right : (grid : Grid) (left right : List Found) → length right ≡ 0 → IsRising (found_rows grid left) → found_rows grid left ++ found_rows grid right ≡ put_all (found_rows grid left) (found_rows grid right)
none_right grid left right l r = none_after (found_rows grid left) (found_rows grid right) (long grid right ∙ l) r

pub behind : (grid : Grid) (left right : List Found) (f g : Found) → IsGrid grid → AllByRecursion (IsFound grid) right → 0 < length left → 0 < length right → f ≡ get_or left (length left - 1) f → g ≡ get_or right 0 g → f.position < g.position
    → IsRising (found_rows grid left) → IsRising (found_rows grid right) → found_rows grid left ++ found_rows grid right ≡ put_all (found_rows grid left) (found_rows grid right)
behind grid left right f g is all_right some_left some_right e h less rl rr =
    let size = long grid left in
    let other = long grid right in
    all_appended (found_rows grid left) (found_rows grid right) (found_row grid f) (found_row grid g) (omega (arith, some_left, size)) (omega (arith, some_right, other))
    (row_at grid left (length left - 1) f (omega (arith, some_left)) e ∙ ap (λ (n : ℕ). get_or (found_rows grid left) (n - 1) (found_row grid f)) (sym size)) (row_at grid right 0 g some_right h)
    (rises grid f g is (found_at grid right 0 g all_right some_right h) less) rl rr

pub appended : (grid : Grid) (left right made : List Found) (rows : List Row) → AllByRecursion (IsFound grid) left → AllByRecursion (IsFound grid) right → made ≡ left ++ right → found_rows grid left ++ found_rows grid right ≡ rows → AreFound grid rows made
appended grid left right made rows all_left all_right e h = record {
  each = subst (AllByRecursion (IsFound grid)) (sym e) (all_append grid left right all_left all_right);
  rows_are = ap (found_rows grid) e ∙ rows_append grid left right ∙ h;
}

-- two reads of one index
pub same_found : (xs : List Found) (i : ℕ) (f g : Found) → i < length xs → f ≡ get_or xs i f → g ≡ get_or xs i g → f ≡ g
same_found [] i f g l e h = absurd (omega (arith, l))
same_found (x ∷ xs) zero f g l e h = e ∙ sym h
same_found (x ∷ xs) (suc i) f g l e h = same_found xs i f g (omega (arith, l)) e h

pub at_less : (f f' g g' : Found) → f ≡ f' → g ≡ g' → f'.position < g'.position → f.position < g.position
at_less f f' g g' e h less = subst (λ (x : Found). x.position < g.position) (sym e) (subst (λ (x : Found). f'.position < x.position) (sym h) less)

pub at_same : (f f' g g' : Found) → f ≡ f' → g ≡ g' → f'.position ≡ g'.position → f.position ≡ g.position
at_same f f' g g' e h same = ap (λ (x : Found). x.position) e ∙ same ∙ sym (ap (λ (x : Found). x.position) h)

pub position_is : (f f' : Found) (p q : ℕ) → f ≡ f' → p ≡ f'.position → q ≡ p → q ≡ f.position
position_is f f' p q e h k = k ∙ h ∙ sym (ap (λ (x : Found). x.position) e)
