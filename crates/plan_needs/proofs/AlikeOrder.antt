-- What ranks within groups, and aggregates along lines, need of their source.
use Rattle.std.proofs.Common.{◌≡◌, ℕ, zero, suc, ◌+◌, ℤ, pos, ◌≤ℤ◌, Bool, true, false, List, [], ◌∷◌, length, cond, Option, Some, Result, refl, sym, ap, ◌∙◌, subst, arith}
use Rattle.std.specs.Prelude.{◌||◌, ◌==◌, int_le, slice_index_or, slice_set, IfOk}
use Rattle.std.specs.List.{list_any}
use Rattle.std.specs.Ordering.{is_eq}
use Rattle.std.proofs.lemmas.Bool.{false≢true, and_parts, and_from, eqb-true}
use Rattle.std.proofs.lemmas.Int.{ints}
use Rattle.cell_values.specs.declared.datum.Broken.{Broken}
use Rattle.cell_values.specs.declared.datum.Cell.{Cell}
use Rattle.cell_values.specs.declared.datum.Cell.TheVariants.{Full, Doubt}
use Rattle.cell_values.specs.declared.datum.Row.{Row}
use Rattle.cell_values.specs.declared.schema.Dimension.{Dimension}
use Rattle.array_rows.specs.Boxes.{is_inside, within, bounds_of}
use Rattle.array_rows.specs.Cellwise.{cell_wise}
use Rattle.array_rows.specs.Rows.{Coordinate, row_major, rows_where}
use Rattle.array_rows.proofs.RowsLemmas.{row_major_exact, same_coordinate, within-cell_wise}
use Rattle.array_geom.proofs.NumberLaws.{is_equal}
use Rattle.array_geom.proofs.TestLaws.{le_from_test, le_test}
use Rattle.logical_plan.specs.declared.parts.Aggregate.{Aggregate}
use Rattle.logical_plan.specs.BoxOps.{numbers_at}
use Rattle.logical_plan.specs.Faults.{if_whole}
use Rattle.logical_plan.specs.Groups.{aggregates_of, attribute_of, cells_of}
use Rattle.logical_plan.specs.Ordered.{cumulate_cell, cumulate_rows, is_up_to, line_of, rank_among, rank_cell, rank_rows}
use Rattle.plan_needs.specs.OrderSides.{from_low, kept_sides, of_cumulate, of_rank}
use Rattle.plan_needs.specs.Sides.{Sides, box_of}
use Rattle.plan_needs.specs.Stretches.{all_of}
use Rattle.plan_needs.proofs.AlikeGroups.{implied}
use Rattle.plan_needs.proofs.AlikeParts.{alike_by}
use Rattle.plan_needs.proofs.AlikeWindows.{changed_where}
use Rattle.plan_needs.proofs.EmptyBoxes.{needed_inside, length-unless_nothing}
use Rattle.plan_needs.proofs.Inside.{AreInside, Inside, side_parts, side_from}

-- ---- cells that are changed by what stands with them

-- Where the rows that stand with a cell of the box are needed, the cell itself among them, what becomes of the box depends on what is needed
with_needed : (dims : List Dimension) (sides needed : Sides) (stands : Coordinate → Coordinate → Bool) (change : List Row → Coordinate → Cell → Option Cell)
    → ((a b : List Row) (c : Coordinate) (cell : Cell) → rows_where (stands c) a ≡ rows_where (stands c) b → change a c cell ≡ change b c cell)
    → ((c z : Coordinate) → is_inside (bounds_of dims) z ≡ true → is_inside (box_of sides) c ≡ true → stands c z ≡ true → is_inside (box_of needed) z ≡ true)
    → ((c : Coordinate) → stands c c ≡ true) → (rows : List Row) → AreInside dims rows
    → within (box_of sides) (cell_wise (change rows) rows) ≡ within (box_of sides) (cell_wise (change (within (box_of needed) rows)) (within (box_of needed) rows))
with_needed dims sides needed stands change by_rows holds itself rows i =
    let some : List Row = within (box_of needed) rows in
    within-cell_wise (box_of sides) (change rows) rows
    ∙ changed_where (Inside dims) (is_inside (box_of sides)) (change rows) (change some) (λ row inside e. by_rows rows some row.at.items row.cell (standing row.at.items e)) rows i
    ∙ ap (λ (l : List Row). cell_wise (change some) l) in_box
    ∙ sym (within-cell_wise (box_of sides) (change some) some)
  where
    standing : (c : Coordinate) → is_inside (box_of sides) c ≡ true → rows_where (stands c) rows ≡ rows_where (stands c) (within (box_of needed) rows)
    standing c e = implied (Inside dims) (λ (row : Row). stands c row.at.items) (λ (row : Row). is_inside (box_of needed) row.at.items) (λ row inside f. holds c row.at.items inside e f) rows i

    in_box : within (box_of sides) rows ≡ within (box_of sides) (within (box_of needed) rows)
    in_box =
        implied (Inside dims) (λ (row : Row). is_inside (box_of sides) row.at.items) (λ (row : Row). is_inside (box_of needed) row.at.items)
        (λ row inside f. holds row.at.items row.at.items inside f (itself row.at.items)) rows i

equal_test : (c : Coordinate) → is_eq (row_major c c) ≡ true
equal_test c = ap is_eq (same_coordinate c)

-- ---- rank

in_group : List ℕ → Coordinate → Coordinate → Bool
in_group places c z = is_eq (row_major (numbers_at places z) (numbers_at places c))

-- coordinates with the same numbers at named places have the same number at each of them
same_named : (places : List ℕ) (z c : Coordinate) (n : ℕ) → numbers_at places z ≡ numbers_at places c → list_any (λ p. p == n) places ≡ true → slice_index_or z n (pos 0) ≡ slice_index_or c n (pos 0)
same_named [] z c n e t = absurd (false≢true t)
same_named (p ∷ places) z c n e t = by_test (p == n) refl t (same_named places z c n (rest e))
  where
    rest : numbers_at (p ∷ places) z ≡ numbers_at (p ∷ places) c → numbers_at places z ≡ numbers_at places c
    rest f = cc

    first : numbers_at (p ∷ places) z ≡ numbers_at (p ∷ places) c → slice_index_or z p (pos 0) ≡ slice_index_or c p (pos 0)
    first f = cc

    by_test : (b : Bool) → (p == n) ≡ b → (b || list_any (λ q. q == n) places) ≡ true → (list_any (λ q. q == n) places ≡ true → slice_index_or z n (pos 0) ≡ slice_index_or c n (pos 0)) → slice_index_or z n (pos 0) ≡ slice_index_or c n (pos 0)
    by_test true f g ih = let at : p ≡ n = eqb-true p n f in subst (λ (k : ℕ). slice_index_or z k (pos 0) ≡ slice_index_or c k (pos 0)) at (first e)
    by_test false f g ih = ih g

kept_hold : (places : List ℕ) (z c : Coordinate) → ((k : ℕ) → list_any (λ p. p == k) places ≡ true → slice_index_or z k (pos 0) ≡ slice_index_or c k (pos 0)) → (n : ℕ) (dims : List Dimension) (sides : Sides) (zs cs : Coordinate)
    → ((k : ℕ) → slice_index_or z (n + k) (pos 0) ≡ slice_index_or zs k (pos 0)) → ((k : ℕ) → slice_index_or c (n + k) (pos 0) ≡ slice_index_or cs k (pos 0)) → is_inside (bounds_of dims) zs ≡ true → is_inside (box_of sides) cs ≡ true → length sides ≡ length dims
    → is_inside (box_of (kept_sides places n dims sides)) zs ≡ true
kept_hold places z c same n [] sides [] cs az ac e f len = refl
kept_hold places z c same n [] sides (y ∷ zs) cs az ac e f len = absurd (false≢true e)
kept_hold places z c same n (d ∷ dims) sides [] cs az ac e f len = absurd (false≢true e)
kept_hold places z c same n (d ∷ dims) [] (y ∷ zs) cs az ac e f len = absurd (omega arith)
kept_hold places z c same n (d ∷ dims) (s ∷ sides) (y ∷ zs) [] az ac e f len = absurd (false≢true f)
kept_hold places z c same n (d ∷ dims) (s ∷ sides) (y ∷ zs) (x ∷ cs) az ac e f len =
    let p = side_parts d.lo d.hi y (is_inside (bounds_of dims) zs) e in
    let q = side_parts s.first s.last x (is_inside (box_of sides) cs) f in
    by_test (list_any (λ p. p == n) places) refl p.0 p.1 q.0 q.1
    (kept_hold places z c same (n + 1) dims sides zs cs (λ k. ap (λ (m : ℕ). slice_index_or z m (pos 0)) (later n k) ∙ az (suc k)) (λ k. ap (λ (m : ℕ). slice_index_or c m (pos 0)) (later n k) ∙ ac (suc k)) p.2 q.2 (omega arith))
  where
    here : (m : ℕ) → m ≡ m + 0
    here m = omega arith

    later : (m k : ℕ) → (m + 1) + k ≡ m + suc k
    later m k = omega arith

    equal : list_any (λ p. p == n) places ≡ true → x ≡ y
    equal t =
        sym (ap (λ (m : ℕ). slice_index_or c m (pos 0)) (here n) ∙ ac 0) ∙ sym (same n t) ∙ ap (λ (m : ℕ). slice_index_or z m (pos 0)) (here n) ∙ az 0

    by_test : (b : Bool) → list_any (λ p. p == n) places ≡ b → d.lo ≤ℤ y → y ≤ℤ d.hi → s.first ≤ℤ x → x ≤ℤ s.last → is_inside (box_of (kept_sides places (n + 1) dims sides)) zs ≡ true
        → is_inside (box_of (cond b s (all_of d) ∷ kept_sides places (n + 1) dims sides)) (y ∷ zs) ≡ true
    by_test true t l h a g ih = side_from s.first s.last y _ (subst (λ (v : ℤ). s.first ≤ℤ v) (equal t) a) (subst (λ (v : ℤ). v ≤ℤ s.last) (equal t) g) ih
    by_test false t l h a g ih = side_from d.lo d.hi y _ l h ih

group_hold : (dims : List Dimension) (places : List ℕ) (sides : Sides) → length sides ≡ length dims → (c z : Coordinate) → is_inside (bounds_of dims) z ≡ true → is_inside (box_of sides) c ≡ true → in_group places c z ≡ true
    → is_inside (box_of (of_rank dims places sides)) z ≡ true
unfolding in_group
group_hold dims places sides len c z e f g =
    needed_inside sides (kept_sides places 0 dims sides) c z f
    (kept_hold places z c (λ k t. same_named places z c k (row_major_exact (numbers_at places z) (numbers_at places c) (is_equal (row_major (numbers_at places z) (numbers_at places c)) g)) t)
    0 dims sides z c (λ k. ap (λ (m : ℕ). slice_index_or z m (pos 0)) (from_zero k)) (λ k. ap (λ (m : ℕ). slice_index_or c m (pos 0)) (from_zero k)) e f len)
  where
    from_zero : (k : ℕ) → 0 + k ≡ k
    from_zero k = omega arith

ranks_alike : (x : ℕ) (places : List ℕ) (a b : List Row) (c : Coordinate) (cell : Cell) → rows_where (in_group places c) a ≡ rows_where (in_group places c) b → rank_cell x places a c cell ≡ rank_cell x places b c cell
unfolding in_group
ranks_alike x places a b c (Full vs) e = ap (λ (l : List Row). Some (Full (attribute_of x (Full vs) ∷ rank_among x (attribute_of x (Full vs)) (cells_of l) ∷ []))) e
ranks_alike x places a b c (Doubt kind) e = refl

itself_in : (places : List ℕ) (c : Coordinate) → in_group places c c ≡ true
unfolding in_group
itself_in places c = equal_test (numbers_at places c)

pub alike_rank : (dims : List Dimension) (x : ℕ) (places : List ℕ) (sides : Sides) → length sides ≡ length dims → (a b : Result (List Row) Broken) → IfOk a (AreInside dims) → IfOk b (AreInside dims)
    → if_whole (within (box_of (of_rank dims places sides))) a ≡ if_whole (within (box_of (of_rank dims places sides))) b → if_whole (within (box_of sides)) (if_whole (rank_rows x places) a) ≡ if_whole (within (box_of sides)) (if_whole (rank_rows x places) b)
alike_rank dims x places sides len a b i j h =
    alike_by (AreInside dims) (box_of sides) (box_of (of_rank dims places sides)) (rank_rows x places)
    (with_needed dims sides (of_rank dims places sides) (in_group places) (rank_cell x places) (ranks_alike x places) (group_hold dims places sides len) (itself_in places)) a b i j h

pub length-rank : (dims : List Dimension) (places : List ℕ) (sides : Sides) → length sides ≡ length dims → length (of_rank dims places sides) ≡ length dims
length-rank dims places sides e = length-unless_nothing _ (kept_sides places 0 dims sides) ∙ each 0 dims sides e
  where
    each : (n : ℕ) (ds : List Dimension) (ss : Sides) → length ss ≡ length ds → length (kept_sides places n ds ss) ≡ length ds
    each n [] ss f = refl
    each n (d ∷ ds) [] f = absurd (omega arith)
    each n (d ∷ ds) (s ∷ ss) f = ap suc (each (n + 1) ds ss (omega arith))

-- ---- cumulate

low_hold : (n : ℕ) (dims : List Dimension) (sides : Sides) (c z : Coordinate) → is_inside (bounds_of dims) z ≡ true → is_inside (box_of sides) c ≡ true → length sides ≡ length dims
    → slice_set z n (pos 0) ≡ slice_set c n (pos 0) → slice_index_or z n (pos 0) ≤ℤ slice_index_or c n (pos 0) → is_inside (box_of (from_low n dims sides)) z ≡ true
low_hold n [] sides c [] e f len same le = refl
low_hold n [] sides c (y ∷ z) e f len same le = absurd (false≢true e)
low_hold n (d ∷ dims) sides c [] e f len same le = absurd (false≢true e)
low_hold n (d ∷ dims) [] c (y ∷ z) e f len same le = absurd (omega arith)
low_hold n (d ∷ dims) (s ∷ sides) [] (y ∷ z) e f len same le = absurd (false≢true f)
low_hold zero (d ∷ dims) (s ∷ sides) (x ∷ c) (y ∷ z) e f len same le =
    let p = side_parts d.lo d.hi y (is_inside (bounds_of dims) z) e in
    let q = side_parts s.first s.last x (is_inside (box_of sides) c) f in
    let rest : c ≡ z = cc in
    side_from d.lo s.last y _ p.0 (up_to y x s.last le q.1) (subst (λ (v : Coordinate). is_inside (box_of sides) v ≡ true) rest q.2)
  where
    up_to : (a b l : ℤ) → a ≤ℤ b → b ≤ℤ l → a ≤ℤ l
    up_to a b l g h = omega (arith, ints)
low_hold (suc n) (d ∷ dims) (s ∷ sides) (x ∷ c) (y ∷ z) e f len same le =
    let p = side_parts d.lo d.hi y (is_inside (bounds_of dims) z) e in
    let q = side_parts s.first s.last x (is_inside (box_of sides) c) f in
    let here : x ≡ y = cc in
    let rest : slice_set z n (pos 0) ≡ slice_set c n (pos 0) = cc in
    side_from s.first s.last y _ (subst (λ (v : ℤ). s.first ≤ℤ v) here q.0) (subst (λ (v : ℤ). v ≤ℤ s.last) here q.1) (low_hold n dims sides c z p.2 q.2 (omega arith) rest le)

line_hold : (dims : List Dimension) (n : ℕ) (sides : Sides) → length sides ≡ length dims → (c z : Coordinate) → is_inside (bounds_of dims) z ≡ true → is_inside (box_of sides) c ≡ true → is_up_to n c z ≡ true
    → is_inside (box_of (of_cumulate dims n sides)) z ≡ true
line_hold dims n sides len c z e f g =
    let p = and_parts (is_eq (row_major (line_of n z) (line_of n c))) (int_le (slice_index_or z n (pos 0)) (slice_index_or c n (pos 0))) g in
    needed_inside sides (from_low n dims sides) c z f
    (low_hold n dims sides c z e f len (row_major_exact (line_of n z) (line_of n c) (is_equal (row_major (line_of n z) (line_of n c)) p.0)) (le_from_test (slice_index_or z n (pos 0)) (slice_index_or c n (pos 0)) p.1))

totals_alike : (n : ℕ) (gs : List Aggregate) (a b : List Row) (c : Coordinate) (cell : Cell) → rows_where (is_up_to n c) a ≡ rows_where (is_up_to n c) b → cumulate_cell n gs a c cell ≡ cumulate_cell n gs b c cell
totals_alike n gs a b c (Full vs) e = ap (λ (l : List Row). Some (aggregates_of gs l)) e
totals_alike n gs a b c (Doubt kind) e = refl

up_to_itself : (n : ℕ) (c : Coordinate) → is_up_to n c c ≡ true
up_to_itself n c = and_from _ _ (equal_test (line_of n c)) (le_test (slice_index_or c n (pos 0)) (slice_index_or c n (pos 0)) (not_above (slice_index_or c n (pos 0))))
  where
    not_above : (x : ℤ) → x ≤ℤ x
    not_above x = omega (arith, ints)

pub alike_cumulate : (dims : List Dimension) (n : ℕ) (gs : List Aggregate) (sides : Sides) → length sides ≡ length dims → (a b : Result (List Row) Broken) → IfOk a (AreInside dims) → IfOk b (AreInside dims)
    → if_whole (within (box_of (of_cumulate dims n sides))) a ≡ if_whole (within (box_of (of_cumulate dims n sides))) b → if_whole (within (box_of sides)) (if_whole (cumulate_rows n gs) a) ≡ if_whole (within (box_of sides)) (if_whole (cumulate_rows n gs) b)
alike_cumulate dims n gs sides len a b i j h =
    alike_by (AreInside dims) (box_of sides) (box_of (of_cumulate dims n sides)) (cumulate_rows n gs)
    (with_needed dims sides (of_cumulate dims n sides) (is_up_to n) (cumulate_cell n gs) (totals_alike n gs) (line_hold dims n sides len) (up_to_itself n)) a b i j h

pub length-cumulate : (dims : List Dimension) (n : ℕ) (sides : Sides) → length sides ≡ length dims → length (of_cumulate dims n sides) ≡ length dims
length-cumulate dims n sides e = length-unless_nothing _ (from_low n dims sides) ∙ each n dims sides e
  where
    each : (m : ℕ) (ds : List Dimension) (ss : Sides) → length ss ≡ length ds → length (from_low m ds ss) ≡ length ds
    each m [] ss f = refl
    each m (d ∷ ds) [] f = absurd (omega arith)
    each zero (d ∷ ds) (s ∷ ss) f = f
    each (suc m) (d ∷ ds) (s ∷ ss) f = ap suc (each m ds ss (omega arith))
