-- Windows of numbers, by their places in a grid.
use Rattle.std.proofs.Common.{◌≡◌, ℕ, zero, suc, ◌+◌, ◌<◌, ◌≤◌, ◌⊎◌, inl, inr, ℤ, pos, ◌+ℤ◌, ◌-ℤ◌, Bool, true, false, cond, ◌||◌, List, [], ◌∷◌, ◌++◌, length, get_or, set, take, Option, Some, None, refl, sym, ap, ◌∙◌, subst, arith}
use Rattle.std.specs.List.{AllByRecursion}
use Rattle.std.specs.Option.{option_or}
use Rattle.std.specs.Ordering.{is_eq}
use Rattle.std.specs.declared.cmp.Ordering.{Ordering}
use Rattle.std.specs.declared.cmp.Ordering.TheVariants.{Less, Equal, Greater}
use Rattle.std.proofs.lemmas.Bool.{cases_lt, false≢true}
use Rattle.std.proofs.lemmas.Int.{ints}
use Rattle.std.proofs.lemmas.List.{get_or-set_same, get_or-set_other, length-set, take_more}
use Rattle.cell_values.specs.declared.datum.Datum.TheVariants.{Int}
use Rattle.cell_values.specs.declared.datum.Cell.{Cell}
use Rattle.cell_values.specs.declared.datum.Cell.TheVariants.{Full, Doubt}
use Rattle.cell_values.specs.declared.datum.Row.{Row}
use Rattle.array_rows.specs.Boxes.{by_pairs}
use Rattle.array_rows.specs.Rows.{Coordinate, IsBefore, IsRising, cell_at, placed, put_row, row_major}
use Rattle.area_cells.specs.declared.finding.Found.{Found}
use Rattle.area_cells.specs.Found.{IsFound, found_cell, found_row, found_rows}
use Rattle.area_cells.proofs.FoundLaws.{rows_append}
use Rattle.std.specs.Prelude.{replicate}
use Rattle.array_rows.proofs.RowsLemmas.{row_major_exact, same_coordinate}
use Rattle.array_rows.proofs.RowSets.{cell_at-put_row}
use Rattle.array_geom.specs.declared.grid.Grid.{Grid}
use Rattle.array_geom.specs.Geometry.{coordinate_in, position_in, volume}
use Rattle.array_geom.specs.Inner.Ranges.{IsGrid}
use Rattle.array_geom.proofs.PlaceLaws.{position_again}
use Rattle.logical_plan.specs.declared.parts.Aggregate.{Aggregate}
use Rattle.logical_plan.specs.declared.parts.AggFunction.{AggFunction}
use Rattle.logical_plan.specs.declared.parts.AggFunction.TheVariants.{Sum, Count, CountAll, Min, Max}
use Rattle.logical_plan.specs.Groups.{attribute_of, fault_for, bad_kind, window}
use Rattle.agg_states.specs.Inner.Summary.{Summary}
use Rattle.agg_states.specs.Stands.{StandsFor}
use Rattle.window_overlap.specs.Inner.Dense.{AreNumbers, HasNumber, HasSeen, beyond, place_of, spot, visited}

-- ---- a number of a cell

pub number_of : (g : Aggregate) (cell : Cell) (n : ℤ) → HasNumber g.attribute (Some cell) n → attribute_of g.attribute cell ≡ Int n
number_of g (Full vs) n h = h
number_of g (Doubt kind) n h = absurd h

pub no_fault : (g : Aggregate) (cell : Cell) (n : ℤ) → HasNumber g.attribute (Some cell) n → fault_for g.function g.attribute cell ≡ None
no_fault g (Doubt kind) n h = absurd h
no_fault g (Full vs) n h = each g.function
  where
    each : (f : AggFunction) → fault_for f g.attribute (Full vs) ≡ None
    each Sum = ap bad_kind h
    each Count = ap bad_kind h
    each CountAll = refl
    each Min = ap bad_kind h
    each Max = ap bad_kind h

-- ---- places that were visited

abbrev pub minus : Coordinate → Coordinate → Coordinate
minus d c = by_pairs (λ x y. x -ℤ y) d c

taken_off : (x y : ℤ) → ((x +ℤ y) -ℤ x) ≡ y
taken_off x y = omega (arith, ints)

put_back : (x y : ℤ) → (y +ℤ (x -ℤ y)) ≡ x
put_back x y = omega (arith, ints)

pub back : (c u : Coordinate) → length u ≡ length c → minus (beyond c u) c ≡ u
back [] [] e = refl
back [] (y ∷ u) e = absurd (omega (arith, e))
back (x ∷ c) [] e = absurd (omega (arith, e))
back (x ∷ c) (y ∷ u) e = λ i. taken_off x y i ∷ back c u (omega (arith, e)) i

long_place : (low : List ℤ) (lengths : List ℕ) (p : ℕ) → length low ≡ length lengths → length (coordinate_in low lengths p) ≡ length low
long_place [] [] p e = refl
long_place [] (n ∷ lengths) p e = absurd (omega (arith, e))
long_place (l ∷ low) [] p e = absurd (omega (arith, e))
long_place (l ∷ low) (n ∷ lengths) p e = ap suc (long_place low lengths _ (omega (arith, e)))

-- two places of a window have two coordinates
pub spots_differ : (window : Grid) (corner : Coordinate) (j k : ℕ) → IsGrid window → length window.low.items ≡ length corner → j < volume window.lengths.items → k < volume window.lengths.items → spot window corner j ≡ spot window corner k → j ≡ k
spots_differ window corner j k is long hj hk e =
    let low = window.low.items in
    let lengths = window.lengths.items in
    let same : place_of window j ≡ place_of window k =
    sym (back corner (place_of window j) (long_place low lengths j is.each ∙ long)) ∙ ap (λ (d : Coordinate). minus d corner) e ∙ back corner (place_of window k) (long_place low lengths k is.each ∙ long) in
    sym (position_again low lengths j is.lengths is.each hj) ∙ ap (position_in low lengths) same ∙ position_again low lengths k is.lengths is.each hk

is_equal : (t : Ordering) → is_eq t ≡ true → t ≡ Equal
is_equal Equal e = refl
is_equal Less e = cc
is_equal Greater e = cc

pub not_visited : (window : Grid) (corner : Coordinate) (n k : ℕ) → IsGrid window → length window.low.items ≡ length corner → k < volume window.lengths.items → n ≤ k → visited window corner n (spot window corner k) ≡ false
not_visited window corner zero k is long h l = refl
not_visited window corner (suc n) k is long h l =
    cases (is_eq (row_major (spot window corner n) (spot window corner k))) refl (not_visited window corner n k is long h (omega (arith, l)))
  where
    cases : (t : Bool) → is_eq (row_major (spot window corner n) (spot window corner k)) ≡ t → visited window corner n (spot window corner k) ≡ false → (visited window corner n (spot window corner k) || t) ≡ false
    cases false e f = ap (λ (b : Bool). b || false) f
    cases true e f =
        let same = spots_differ window corner n k is long (omega (arith, h, l)) h (row_major_exact (spot window corner n) (spot window corner k) (is_equal _ e)) in
        absurd (omega (arith, same, l))

or_right : (b : Bool) → (b || true) ≡ true
or_right true = refl
or_right false = refl

pub is_visited : (window : Grid) (corner : Coordinate) (n k : ℕ) → k < n → visited window corner n (spot window corner k) ≡ true
is_visited window corner zero k h = absurd (omega (arith, h))
is_visited window corner (suc n) k h = cases (λ l. is_visited window corner n k l) (cases_lt k n)
  where
    cases : (k < n → visited window corner n (spot window corner k) ≡ true) → (k < n) ⊎ (n ≤ k) → (visited window corner n (spot window corner k) || is_eq (row_major (spot window corner n) (spot window corner k))) ≡ true
    cases before (inl l) = ap (λ (b : Bool). b || is_eq (row_major (spot window corner n) (spot window corner k))) (before l)
    cases before (inr l) =
        let same : n ≡ k = omega (arith, h, l) in
        ap (λ (o : Ordering). visited window corner n (spot window corner k) || is_eq o) (ap (λ (m : ℕ). row_major (spot window corner m) (spot window corner k)) same ∙ same_coordinate (spot window corner k))
        ∙ or_right (visited window corner n (spot window corner k))

-- ---- one place more

pub seen_none : (g : Aggregate) (window : Grid) (corner : Coordinate) (rows : List Row) (k : ℕ) (state : Summary) → cell_at rows (spot window corner k) ≡ None → HasSeen g window corner rows k state → HasSeen g window corner rows (suc k) state
seen_none g window corner rows k state none has = record {
  seen = has.seen;
  same = λ d. has.same d ∙ cases d (is_eq (row_major (spot window corner k) d)) refl;
  stands = has.stands;
}
  where
    cases : (d : Coordinate) (t : Bool) → is_eq (row_major (spot window corner k) d) ≡ t → cond (visited window corner k d) (cell_at rows d) None ≡ cond (visited window corner k d || t) (cell_at rows d) None
    cases d false e = ap (λ (b : Bool). cond b (cell_at rows d) None) (no_more (visited window corner k d))
      where
        no_more : (b : Bool) → b ≡ (b || false)
        no_more true = refl
        no_more false = refl
    cases d true e =
        let here : cell_at rows d ≡ None = ap (cell_at rows) (sym (row_major_exact (spot window corner k) d (is_equal _ e))) ∙ none in
        ap (λ (o : Option Cell). cond (visited window corner k d) o None) here ∙ both (visited window corner k d) ∙ ap (λ (o : Option Cell). cond (visited window corner k d || true) o None) (sym here)
      where
        no_cell : Option Cell
        no_cell = None

        both : (b : Bool) → cond b no_cell no_cell ≡ cond (b || true) no_cell no_cell
        both true = refl
        both false = refl

pub seen_some : (g : Aggregate) (window : Grid) (corner : Coordinate) (rows : List Row) (k : ℕ) (state state' : Summary) (cell : Cell) → cell_at rows (spot window corner k) ≡ Some cell → (has : HasSeen g window corner rows k state)
    → StandsFor g (put_row (placed (spot window corner k) cell) has.seen) state' → HasSeen g window corner rows (suc k) state'
seen_some g window corner rows k state state' cell some has stands = record {
  seen = put_row (placed (spot window corner k) cell) has.seen;
  same = λ d.
      cell_at-put_row (placed (spot window corner k) cell) has.seen d
      ∙ ap (cond (is_eq (row_major (spot window corner k) d)) (Some cell)) (has.same d)
      ∙ cases d (is_eq (row_major (spot window corner k) d)) refl;
  stands = stands;
}
  where
    cases : (d : Coordinate) (t : Bool) → is_eq (row_major (spot window corner k) d) ≡ t → cond t (Some cell) (cond (visited window corner k d) (cell_at rows d) None) ≡ cond (visited window corner k d || t) (cell_at rows d) None
    cases d false e = ap (λ (b : Bool). cond b (cell_at rows d) None) (no_more (visited window corner k d))
      where
        no_more : (b : Bool) → b ≡ (b || false)
        no_more true = refl
        no_more false = refl
    cases d true e =
        sym some ∙ ap (cell_at rows) (row_major_exact (spot window corner k) d (is_equal _ e)) ∙ sym (ap (λ (b : Bool). cond b (cell_at rows d) None) (or_right (visited window corner k d)))

pub not_seen : (g : Aggregate) (window : Grid) (corner : Coordinate) (rows : List Row) (k : ℕ) (state : Summary) → IsGrid window → length window.low.items ≡ length corner → k < volume window.lengths.items → (has : HasSeen g window corner rows k state)
    → cell_at has.seen (spot window corner k) ≡ None
not_seen g window corner rows k state is long h has =
    has.same (spot window corner k) ∙ ap (λ (b : Bool). cond b (cell_at rows (spot window corner k)) None) (not_visited window corner k k is long h (omega arith))

-- the number at a place is taken
pub takes_place : (g : Aggregate) (window : Grid) (corner : Coordinate) (rows : List Row) (k : ℕ) (old new : Summary) (o : Option Cell) (n : ℤ) → IsGrid window → length window.low.items ≡ length corner → k < volume window.lengths.items
    → cell_at rows (spot window corner k) ≡ o → HasNumber g.attribute o n
    → ((rows' : List Row) (row : Row) → StandsFor g rows' old → attribute_of g.attribute row.cell ≡ Int n → fault_for g.function g.attribute row.cell ≡ None → cell_at rows' row.at.items ≡ None → StandsFor g (put_row row rows') new)
    → HasSeen g window corner rows k old → HasSeen g window corner rows (suc k) new
takes_place g window corner rows k old new None n is long h there has take seen = absurd has
takes_place g window corner rows k old new (Some cell) n is long h there has take seen =
    seen_some g window corner rows k old new cell there seen
    (take seen.seen (placed (spot window corner k) cell) seen.stands (number_of g cell n has) (no_fault g cell n has) (not_seen g window corner rows k old is long h seen))

pub seen_begins : (g : Aggregate) (window : Grid) (corner : Coordinate) (rows : List Row) (state : Summary) → StandsFor g [] state → HasSeen g window corner rows 0 state
seen_begins g window corner rows state stands = record { seen = []; same = λ d. refl; stands = stands }

-- ---- the numbers of an attribute

each_false : (n p : ℕ) → get_or (replicate n false) p false ≡ false
each_false zero p = refl
each_false (suc n) zero = refl
each_false (suc n) (suc p) = each_false n p

long_replicate : {A : Type 0} (n : ℕ) (x : A) → length (replicate n x) ≡ n
long_replicate zero x = refl
long_replicate (suc n) x = ap suc (long_replicate n x)

pub numbers_begin : (grid : Grid) (attribute count : ℕ) (present : List Bool) (numbers : List ℤ) → count ≡ volume grid.lengths.items → present ≡ replicate count false → numbers ≡ replicate count (pos 0) → AreNumbers grid [] attribute present numbers
numbers_begin grid attribute count present numbers e p n = record {
  present_long = ap length p ∙ long_replicate count false ∙ e;
  numbers_long = ap length n ∙ long_replicate count (pos 0) ∙ e;
  absent = λ q h f. refl;
  there = λ q h t. absurd (false≢true (sym (ap (λ (xs : List Bool). get_or xs q false) p ∙ each_false count q) ∙ t));
}

append_at : (a b : List Row) (c : Coordinate) → cell_at (a ++ b) c ≡ option_or (cell_at a c) (cell_at b c)
append_at [] b c = refl
append_at (row ∷ a) b c = ap (cond (is_eq (row_major row.at.items c)) (Some row.cell)) (append_at a b c) ∙ cases (is_eq (row_major row.at.items c))
  where
    cases : (t : Bool) → cond t (Some row.cell) (option_or (cell_at a c) (cell_at b c)) ≡ option_or (cond t (Some row.cell) (cell_at a c)) (cell_at b c)
    cases true = refl
    cases false = refl

before_none : (a : List Row) (row : Row) → IsRising (a ++ row ∷ []) → cell_at a row.at.items ≡ None
before_none [] row r = refl
before_none (x ∷ a) row r =
    ap (λ (o : Ordering). cond (is_eq o) (Some x.cell) (cell_at a row.at.items)) (last a r.0) ∙ before_none a row r.1
  where
    last : (xs : List Row) → IsBefore x.at.items (xs ++ row ∷ []) → row_major x.at.items row.at.items ≡ Less
    last [] b = b.0
    last (y ∷ xs) b = last xs b.1

apart : (grid : Grid) (p q : ℕ) → IsGrid grid → p < volume grid.lengths.items → q < volume grid.lengths.items → (p ≡ q → ⊥) → is_eq (row_major (place_of grid p) (place_of grid q)) ≡ false
apart grid p q is hp hq differ = cases (is_eq (row_major (place_of grid p) (place_of grid q))) refl
  where
    cases : (t : Bool) → is_eq (row_major (place_of grid p) (place_of grid q)) ≡ t → t ≡ false
    cases false e = refl
    cases true e =
        let same = row_major_exact (place_of grid p) (place_of grid q) (is_equal _ e) in
        absurd (differ (sym (position_again grid.low.items grid.lengths.items p is.lengths is.each hp) ∙ ap (position_in grid.low.items grid.lengths.items) same ∙ position_again grid.low.items grid.lengths.items q is.lengths is.each hq))

-- elsewhere all stays as it was
other_place : (grid : Grid) (rows : List Row) (f : Found) (q : ℕ) → IsGrid grid → IsFound grid f → q < volume grid.lengths.items → (q ≡ f.position → ⊥) → cell_at (rows ++ found_row grid f ∷ []) (place_of grid q) ≡ cell_at rows (place_of grid q)
other_place grid rows f q is found h differ =
    append_at rows (found_row grid f ∷ []) (place_of grid q)
    ∙ ap (λ (t : Bool). option_or (cell_at rows (place_of grid q)) (cond t (Some (found_cell f)) None)) (apart grid f.position q is found.inside h (λ e. differ (sym e)))
    ∙ none (cell_at rows (place_of grid q))
  where
    none : (o : Option Cell) → option_or o None ≡ o
    none None = refl
    none (Some x) = refl

same_or_not : (p q : ℕ) → (q ≡ p) ⊎ (q ≡ p → ⊥)
same_or_not p q = cases (cases_lt q p) (cases_lt p q)
  where
    cases : (q < p) ⊎ (p ≤ q) → (p < q) ⊎ (q ≤ p) → (q ≡ p) ⊎ (q ≡ p → ⊥)
    cases (inl h) k = inr (λ e. omega (arith, h, e))
    cases (inr h) (inl k) = inr (λ e. omega (arith, k, e))
    cases (inr h) (inr k) = inl (omega (arith, h, k))

true_false : true ≡ false → ⊥
true_false e = cc

pub number_added : (grid : Grid) (rows : List Row) (attribute : ℕ) (present present' : List Bool) (numbers numbers' : List ℤ) (f : Found) (n : ℤ) → IsGrid grid → IsFound grid f → IsRising (rows ++ found_row grid f ∷ []) → HasNumber attribute (Some (found_cell f)) n
    → present' ≡ set present f.position true → numbers' ≡ set numbers f.position n → AreNumbers grid rows attribute present numbers → AreNumbers grid (rows ++ found_row grid f ∷ []) attribute present' numbers'
number_added grid rows attribute present present' numbers numbers' f n is found rise has e g are = record {
  present_long = ap length e ∙ length-set present f.position true ∙ are.present_long;
  numbers_long = ap length g ∙ length-set numbers f.position n ∙ are.numbers_long;
  absent = λ q h t. away q h t (same_or_not f.position q);
  there = λ q h t. here q h t (same_or_not f.position q);
}
  where
    low_present : f.position < length present
    low_present = let long = are.present_long in let h = found.inside in omega (arith, long, h)

    low_numbers : f.position < length numbers
    low_numbers = let long = are.numbers_long in let h = found.inside in omega (arith, long, h)

    away : (q : ℕ) → q < volume grid.lengths.items → get_or present' q false ≡ false → (q ≡ f.position) ⊎ (q ≡ f.position → ⊥) → cell_at (rows ++ found_row grid f ∷ []) (place_of grid q) ≡ None
    away q h t (inl same) =
        let set_here : get_or present' f.position false ≡ true = ap (λ (xs : List Bool). get_or xs f.position false) e ∙ get_or-set_same present f.position true false low_present in
        absurd (true_false (sym set_here ∙ ap (λ (m : ℕ). get_or present' m false) (sym same) ∙ t))
    away q h t (inr differ) =
        let as_before : get_or present' q false ≡ get_or present q false = ap (λ (xs : List Bool). get_or xs q false) e ∙ get_or-set_other present f.position q true false differ in
        other_place grid rows f q is found h differ ∙ are.absent q h (sym as_before ∙ t)

    here : (q : ℕ) → q < volume grid.lengths.items → get_or present' q false ≡ true → (q ≡ f.position) ⊎ (q ≡ f.position → ⊥) → HasNumber attribute (cell_at (rows ++ found_row grid f ∷ []) (place_of grid q)) (get_or numbers' q (pos 0))
    here q h t (inl same) =
        let number : n ≡ get_or numbers' q (pos 0) = sym (ap (λ (m : ℕ). get_or numbers' m (pos 0)) same ∙ ap (λ (xs : List ℤ). get_or xs f.position (pos 0)) g ∙ get_or-set_same numbers f.position n (pos 0) low_numbers) in
        let cell : Some (found_cell f) ≡ cell_at (rows ++ found_row grid f ∷ []) (place_of grid q) =
        sym (ap (λ (m : ℕ). cell_at (rows ++ found_row grid f ∷ []) (place_of grid m)) same
        ∙ append_at rows (found_row grid f ∷ []) (place_of grid f.position)
        ∙ ap (λ (o : Option Cell). option_or o (cell_at (found_row grid f ∷ []) (place_of grid f.position))) (before_none rows (found_row grid f) rise)
        ∙ ap (λ (o : Ordering). cond (is_eq o) (Some (found_cell f)) None) (same_coordinate (place_of grid f.position))) in
        subst (λ (o : Option Cell). HasNumber attribute o (get_or numbers' q (pos 0))) cell (subst (HasNumber attribute (Some (found_cell f))) number has)
    here q h t (inr differ) =
        let as_before : get_or present q false ≡ true = sym (ap (λ (xs : List Bool). get_or xs q false) e ∙ get_or-set_other present f.position q true false differ) ∙ t in
        let number : get_or numbers q (pos 0) ≡ get_or numbers' q (pos 0) = sym (ap (λ (xs : List ℤ). get_or xs q (pos 0)) g ∙ get_or-set_other numbers f.position q n (pos 0) differ) in
        subst (λ (o : Option Cell). HasNumber attribute o (get_or numbers' q (pos 0))) (sym (other_place grid rows f q is found h differ)) (subst (HasNumber attribute (cell_at rows (place_of grid q))) number (are.there q h as_before))

rising_part : (n : ℕ) (grid : Grid) (found : List Found) → IsRising (found_rows grid found) → IsRising (found_rows grid (take n found))
rising_part zero grid found r = tt
rising_part (suc n) grid [] r = tt
rising_part (suc n) grid (f ∷ found) r = (before n found r.0, rising_part n grid found r.1)
  where
    before : (n : ℕ) (xs : List Found) → IsBefore (place_of grid f.position) (found_rows grid xs) → IsBefore (place_of grid f.position) (found_rows grid (take n xs))
    before zero xs b = tt
    before (suc n) [] b = tt
    before (suc n) (x ∷ xs) b = (b.0, before n xs b.1)

pub next_numbers : (grid : Grid) (found : List Found) (k attribute : ℕ) (present present' : List Bool) (numbers numbers' : List ℤ) (f : Found) (n : ℤ) → IsGrid grid → AllByRecursion (IsFound grid) found → IsRising (found_rows grid found) → k < length found → f ≡ get_or found k f
    → IsFound grid f → HasNumber attribute (Some (found_cell f)) n → present' ≡ set present f.position true → numbers' ≡ set numbers f.position n → AreNumbers grid (found_rows grid (take k found)) attribute present numbers
    → AreNumbers grid (found_rows grid (take (k + 1) found)) attribute present' numbers'
next_numbers grid found k attribute present present' numbers numbers' f n is all rise l e one has p q are =
    let more : take (k + 1) found ≡ take k found ++ f ∷ [] = take_more found k f l ∙ ap (λ (x : Found). take k found ++ x ∷ []) (sym e) in
    let rows : found_rows grid (take (k + 1) found) ≡ found_rows grid (take k found) ++ found_row grid f ∷ [] = ap (found_rows grid) more ∙ rows_append grid (take k found) (f ∷ []) in
    subst (λ (rs : List Row). AreNumbers grid rs attribute present' numbers') (sym rows)
    (number_added grid (found_rows grid (take k found)) attribute present present' numbers numbers' f n is one (subst IsRising rows (rising_part (k + 1) grid found rise)) has p q are)
