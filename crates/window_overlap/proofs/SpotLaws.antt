-- The coordinates of a window, place by place.
use Rattle.std.proofs.Common.{◌≡◌, ℕ, zero, suc, ◌+◌, ◌*◌, ◌<◌, ℤ, pos, ◌+ℤ◌, ◌-ℤ◌, Bool, true, false, cond, ◌&&◌, ◌||◌, List, [], ◌∷◌, length, get_or, None, refl, sym, ap, ◌∙◌, subst, arith}
use Rattle.std.specs.Prelude.{int_le, int_lt, unsigned_abs}
use Rattle.std.specs.Ordering.{is_eq}
use Rattle.std.specs.declared.cmp.Ordering.{Ordering}
use Rattle.std.specs.declared.cmp.Ordering.TheVariants.{Less, Equal, Greater}
use Rattle.std.proofs.lemmas.Bool.{false≢true}
use Rattle.std.proofs.lemmas.Int.{ints}
use Rattle.cell_values.specs.declared.datum.Row.{Row}
use Rattle.cell_values.specs.declared.schema.Bounds.{Bounds}
use Rattle.array_rows.specs.Boxes.{by_pairs, is_inside, within}
use Rattle.array_rows.specs.Rows.{Coordinate, IsRising, cell_at, row_major}
use Rattle.array_rows.proofs.RowsLemmas.{row_major_exact, same_rows}
use Rattle.array_rows.proofs.RowSets.{IsRising-rows_where, cell_at-within}
use Rattle.array_geom.specs.declared.grid.Grid.{Grid}
use Rattle.array_geom.specs.Geometry.{position_in, volume}
use Rattle.array_geom.specs.Inner.Ranges.{IsGrid, is_in_grid}
use Rattle.array_geom.proofs.PlaceLaws.{above, coordinate_again, coordinate_in_grid, position_below}
use Rattle.array_geom.proofs.TestLaws.{and_both, and_parts, le_from_test, le_test, lt_from_test, lt_test}
use Rattle.logical_plan.specs.declared.parts.Aggregate.{Aggregate}
use Rattle.logical_plan.specs.declared.parts.Reach.{Reach}
use Rattle.logical_plan.specs.Groups.{window}
use Rattle.agg_states.specs.Inner.Summary.{Summary}
use Rattle.agg_states.specs.Stands.{StandsFor}
use Rattle.window_overlap.specs.Inner.Dense.{AreOffsets, HasSeen, IsSet, beyond, corner_of, place_of, span, spot, visited, widths, zeros}
use Rattle.window_overlap.proofs.DenseLaws.{is_visited, minus}
use Rattle.window_overlap.proofs.PartLaws.{on_side, side}

wide : (b : ℕ) → pos 0 +ℤ pos (unsigned_abs (pos b -ℤ pos 0)) ≡ pos b
wide b = above (pos 0) (pos b) (omega (arith, ints))

pub beyond_inside : (reach : List Reach) (c u : Coordinate) → length c ≡ length reach → is_in_grid (zeros reach) (by_pairs span (zeros reach) (widths reach)) u ≡ true → is_inside (window reach c) (beyond (corner_of reach c) u) ≡ true
beyond_inside [] [] [] l e = refl
beyond_inside [] [] (y ∷ u) l e = refl
beyond_inside [] (x ∷ c) u l e = absurd (omega (arith, l))
beyond_inside (r ∷ reach) [] u l e = absurd (omega (arith, l))
beyond_inside (r ∷ reach) (x ∷ c) [] l e = absurd (false≢true e)
beyond_inside (r ∷ reach) (x ∷ c) (y ∷ u) l e =
    let t = and_parts (int_le (pos 0) y && int_lt y (pos 0 +ℤ pos (span (pos 0) (pos (r.before + r.after))))) (is_in_grid (zeros reach) (by_pairs span (zeros reach) (widths reach)) u) e in
    let v = and_parts (int_le (pos 0) y) (int_lt y (pos 0 +ℤ pos (span (pos 0) (pos (r.before + r.after))))) t.0 in
    let low = le_from_test (pos 0) y v.0 in
    let high = lt_from_test y (pos 0 +ℤ pos (span (pos 0) (pos (r.before + r.after)))) v.1 in
    let far = wide (r.before + r.after) in
    side (x -ℤ pos r.before) (x +ℤ pos r.after) ((x -ℤ pos r.before) +ℤ y) _ (omega (arith, ints, low)) (omega (arith, ints, high, far)) (beyond_inside reach c u (omega (arith, l)) t.1)

put_back : (x y : ℤ) → (y +ℤ (x -ℤ y)) ≡ x
put_back x y = omega (arith, ints)

pub record IsOff (reach : List Reach) (c d : Coordinate) : Type 0 where
  pub in_it : is_in_grid (zeros reach) (by_pairs span (zeros reach) (widths reach)) (minus d (corner_of reach c)) ≡ true
  pub again : beyond (corner_of reach c) (minus d (corner_of reach c)) ≡ d

pub inside_off : (reach : List Reach) (c d : Coordinate) → length c ≡ length reach → is_inside (window reach c) d ≡ true → IsOff reach c d
inside_off [] [] [] l e = record { in_it = refl; again = refl }
inside_off [] [] (y ∷ d) l e = absurd (false≢true e)
inside_off [] (x ∷ c) d l e = absurd (omega (arith, l))
inside_off (r ∷ reach) [] d l e = absurd (omega (arith, l))
inside_off (r ∷ reach) (x ∷ c) [] l e = absurd (false≢true e)
inside_off (r ∷ reach) (x ∷ c) (y ∷ d) l e =
    let s = on_side (x -ℤ pos r.before) (x +ℤ pos r.after) y _ e in
    let low = s.low in
    let high = s.high in
    let far = wide (r.before + r.after) in
    let more = inside_off reach c d (omega (arith, l)) s.others in
    record {
      in_it = and_both _ _ (and_both _ _ (le_test (pos 0) (y -ℤ (x -ℤ pos r.before)) (omega (arith, ints, low))) (lt_test (y -ℤ (x -ℤ pos r.before)) (pos 0 +ℤ pos (span (pos 0) (pos (r.before + r.after)))) (omega (arith, ints, high, far)))) more.in_it;
      again = λ i. put_back y (x -ℤ pos r.before) i ∷ more.again i;
    }

pub corner_inside : (reach : List Reach) (c : Coordinate) → length c ≡ length reach → is_inside (window reach c) (corner_of reach c) ≡ true
corner_inside [] [] l = refl
corner_inside [] (x ∷ c) l = absurd (omega (arith, l))
corner_inside (r ∷ reach) [] l = absurd (omega (arith, l))
corner_inside (r ∷ reach) (x ∷ c) l = side (x -ℤ pos r.before) (x +ℤ pos r.after) (x -ℤ pos r.before) _ (omega (arith, ints)) (omega (arith, ints)) (corner_inside reach c (omega (arith, l)))

-- ---- visited coordinates

pub record IsSpot (w : Grid) (corner : Coordinate) (n : ℕ) (d : Coordinate) : Type 0 where
  pub at : ℕ
  pub below : at < n
  pub same : spot w corner at ≡ d

is_equal : (t : Ordering) → is_eq t ≡ true → t ≡ Equal
is_equal Equal e = refl
is_equal Less e = cc
is_equal Greater e = cc

pub visited_some : (w : Grid) (corner : Coordinate) (n : ℕ) (d : Coordinate) → visited w corner n d ≡ true → IsSpot w corner n d
visited_some w corner zero d e = absurd (false≢true e)
visited_some w corner (suc n) d e = cases (visited w corner n d) refl (λ f. visited_some w corner n d f) e
  where
    cases : (t : Bool) → visited w corner n d ≡ t → (visited w corner n d ≡ true → IsSpot w corner n d) → (t || is_eq (row_major (spot w corner n) d)) ≡ true → IsSpot w corner (suc n) d
    cases true f before g = let b = before f in record { at = b.at; below = let h = b.below in omega (arith, h); same = b.same }
    cases false f before g = record { at = n; below = omega arith; same = row_major_exact (spot w corner n) d (is_equal _ g) }

pub all_visited : (w : Grid) (reach : List Reach) (c d : Coordinate) → IsGrid w → w.low.items ≡ zeros reach → w.lengths.items ≡ by_pairs span (zeros reach) (widths reach) → length c ≡ length reach
    → visited w (corner_of reach c) (volume w.lengths.items) d ≡ is_inside (window reach c) d
all_visited w reach c d is low lengths l = cases (visited w corner n d) refl (is_inside (window reach c) d) refl
  where
    corner : Coordinate
    corner = corner_of reach c

    n : ℕ
    n = volume w.lengths.items

    spot_inside : (k : ℕ) → k < n → is_inside (window reach c) (spot w corner k) ≡ true
    spot_inside k h =
        beyond_inside reach c (place_of w k) l
        ((λ i. is_in_grid (sym low i) (sym lengths i) (place_of w k)) ∙ coordinate_in_grid w.low.items w.lengths.items k is.lengths is.each h)

    is_there : is_inside (window reach c) d ≡ true → visited w corner n d ≡ true
    is_there e =
        let off = inside_off reach c d l e in
        let u = minus d corner in
        let in_it : is_in_grid w.low.items w.lengths.items u ≡ true = (λ i. is_in_grid (low i) (lengths i) u) ∙ off.in_it in
        let k = position_in w.low.items w.lengths.items u in
        let same : spot w corner k ≡ d = ap (beyond corner) (coordinate_again w.low.items w.lengths.items u in_it) ∙ off.again in
        ap (visited w corner n) (sym same) ∙ is_visited w corner n k (position_below w.low.items w.lengths.items u in_it)

    is_in : visited w corner n d ≡ true → is_inside (window reach c) d ≡ true
    is_in e = let s = visited_some w corner n d e in ap (is_inside (window reach c)) (sym s.same) ∙ spot_inside s.at s.below

    cases : (a : Bool) → visited w corner n d ≡ a → (b : Bool) → is_inside (window reach c) d ≡ b → visited w corner n d ≡ is_inside (window reach c) d
    cases true e true f = e ∙ sym f
    cases true e false f = absurd (false≢true (sym f ∙ is_in e))
    cases false e true f = absurd (false≢true (sym e ∙ is_there f))
    cases false e false f = e ∙ sym f

pub seen_window : (g : Aggregate) (w : Grid) (reach : List Reach) (c : Coordinate) (rows : List Row) (n : ℕ) (state : Summary) → IsGrid w → w.low.items ≡ zeros reach → w.lengths.items ≡ by_pairs span (zeros reach) (widths reach) → length c ≡ length reach
    → n ≡ volume w.lengths.items → IsRising rows → HasSeen g w (corner_of reach c) rows n state → StandsFor g (within (window reach c) rows) state
seen_window g w reach c rows n state is low lengths l e rise has =
    let same : has.seen ≡ within (window reach c) rows =
    same_rows has.seen (within (window reach c) rows) has.stands.rising (IsRising-rows_where (is_inside (window reach c)) rows rise)
    (λ d. has.same d
    ∙ ap (λ (b : Bool). cond b (cell_at rows d) None) (ap (λ (m : ℕ). visited w (corner_of reach c) m d) e ∙ all_visited w reach c d is low lengths l)
    ∙ sym (cell_at-within (window reach c) rows d)) in
    subst (λ (rs : List Row). StandsFor g rs state) same has.stands

-- ---- places

distributed : (b c v : ℕ) → (b + c) * v ≡ b * v + c * v
distributed b c v = grind arith

regrouped : (a b c v r s t : ℕ) → a ≡ b + c → t ≡ r + s → a * v + t ≡ b * v + r + (c * v + s)
regrouped a b c v r s t e f =
    let g : a * v ≡ b * v + c * v = ap (λ (n : ℕ). n * v) e ∙ distributed b c v in
    omega (arith, f, g)

pub shift_position : (reach : List Reach) (low : List ℤ) (ns : List ℕ) (c u : Coordinate) → is_in_grid low ns c ≡ true → is_in_grid low ns (beyond c u) ≡ true → is_in_grid (zeros reach) ns u ≡ true
    → position_in low ns (beyond c u) ≡ position_in low ns c + position_in (zeros reach) ns u
shift_position [] [] [] [] [] e f g = refl
shift_position reach [] [] (x ∷ c) u e f g = absurd (false≢true e)
shift_position (r ∷ reach) [] [] [] [] e f g = absurd (false≢true g)
shift_position (r ∷ reach) [] [] [] (y ∷ u) e f g = absurd (false≢true g)
shift_position [] [] [] [] (y ∷ u) e f g = absurd (false≢true g)
shift_position reach [] (n ∷ ns) [] u e f g = absurd (false≢true e)
shift_position reach [] (n ∷ ns) (x ∷ c) u e f g = absurd (false≢true e)
shift_position reach (l ∷ low) [] [] u e f g = absurd (false≢true e)
shift_position reach (l ∷ low) [] (x ∷ c) u e f g = absurd (false≢true e)
shift_position reach (l ∷ low) (n ∷ ns) [] u e f g = absurd (false≢true e)
shift_position [] (l ∷ low) (n ∷ ns) (x ∷ c) [] e f g = absurd (false≢true g)
shift_position [] (l ∷ low) (n ∷ ns) (x ∷ c) (y ∷ u) e f g = absurd (false≢true g)
shift_position (r ∷ reach) (l ∷ low) (n ∷ ns) (x ∷ c) [] e f g = absurd (false≢true g)
shift_position (r ∷ reach) (l ∷ low) (n ∷ ns) (x ∷ c) (y ∷ u) e f g =
    let p = and_parts (int_le l x && int_lt x (l +ℤ pos n)) (is_in_grid low ns c) e in
    let q = and_parts (int_le l (x +ℤ y) && int_lt (x +ℤ y) (l +ℤ pos n)) (is_in_grid low ns (beyond c u)) f in
    let s = and_parts (int_le (pos 0) y && int_lt y (pos 0 +ℤ pos n)) (is_in_grid (zeros reach) ns u) g in
    let one = above l x (le_from_test l x (and_parts (int_le l x) (int_lt x (l +ℤ pos n)) p.0).0) in
    let both = above l (x +ℤ y) (le_from_test l (x +ℤ y) (and_parts (int_le l (x +ℤ y)) (int_lt (x +ℤ y) (l +ℤ pos n)) q.0).0) in
    let other = above (pos 0) y (le_from_test (pos 0) y (and_parts (int_le (pos 0) y) (int_lt y (pos 0 +ℤ pos n)) s.0).0) in
    let sum : unsigned_abs ((x +ℤ y) -ℤ l) ≡ unsigned_abs (x -ℤ l) + unsigned_abs (y -ℤ pos 0) = omega (arith, ints, one, both, other) in
    regrouped (unsigned_abs ((x +ℤ y) -ℤ l)) (unsigned_abs (x -ℤ l)) (unsigned_abs (y -ℤ pos 0)) (volume ns) (position_in low ns c) (position_in (zeros reach) ns u) (position_in low ns (beyond c u)) sum
    (shift_position reach low ns c u p.1 q.1 s.1)

-- the place of each coordinate of a window
pub record IsPlacedAt (grid w : Grid) (corner : Coordinate) (base : ℕ) (offsets : List ℕ) (k : ℕ) : Type 0 where
  pub inside : base + get_or offsets k 0 < volume grid.lengths.items
  pub same : place_of grid (base + get_or offsets k 0) ≡ spot w corner k

pub spots_placed : (grid w origin : Grid) (reach : List Reach) (c : Coordinate) (base : ℕ) (offsets : List ℕ) (k : ℕ) → IsGrid grid → IsGrid w → w.low.items ≡ zeros reach → w.lengths.items ≡ by_pairs span (zeros reach) (widths reach) → length c ≡ length reach
    → origin.low.items ≡ zeros reach → origin.lengths.items ≡ grid.lengths.items → ((u : Coordinate) → is_in_grid w.low.items w.lengths.items u ≡ true → is_in_grid origin.low.items origin.lengths.items u ≡ true)
    → ((d : Coordinate) → is_inside (window reach c) d ≡ true → is_in_grid grid.low.items grid.lengths.items d ≡ true) → base ≡ position_in grid.low.items grid.lengths.items (corner_of reach c) → AreOffsets w origin offsets → k < volume w.lengths.items
    → IsPlacedAt grid w (corner_of reach c) base offsets k
spots_placed grid w origin reach c base offsets k is other low lengths l origin_low origin_lengths fits held at are h =
    let corner = corner_of reach c in
    let u = place_of w k in
    let u_in : is_in_grid w.low.items w.lengths.items u ≡ true = coordinate_in_grid w.low.items w.lengths.items k other.lengths other.each h in
    let there : is_inside (window reach c) (beyond corner u) ≡ true = beyond_inside reach c u l ((λ i. is_in_grid (sym low i) (sym lengths i) u) ∙ u_in) in
    let in_it = held (beyond corner u) there in
    let u_zero : is_in_grid (zeros reach) grid.lengths.items u ≡ true = (λ i. is_in_grid (sym origin_low i) (sym origin_lengths i) u) ∙ fits u u_in in
    let offset : get_or offsets k 0 ≡ position_in (zeros reach) grid.lengths.items u = are.each k h ∙ (λ i. position_in (origin_low i) (origin_lengths i) u) in
    let place : position_in grid.low.items grid.lengths.items (beyond corner u) ≡ base + get_or offsets k 0 =
    shift_position reach grid.low.items grid.lengths.items corner u (held corner (corner_inside reach c l)) in_it u_zero ∙ (λ i. sym at i + sym offset i) in
    record {
      inside = subst (λ (n : ℕ). n < volume grid.lengths.items) place (position_below grid.low.items grid.lengths.items (beyond corner u) in_it);
      same = ap (place_of grid) (sym place) ∙ coordinate_again grid.low.items grid.lengths.items (beyond corner u) in_it;
    }

-- ---- what one aggregate asks for

corner_long : (reach : List Reach) (c : Coordinate) → length c ≡ length reach → length (corner_of reach c) ≡ length reach
corner_long [] [] l = refl
corner_long [] (x ∷ c) l = absurd (omega (arith, l))
corner_long (r ∷ reach) [] l = absurd (omega (arith, l))
corner_long (r ∷ reach) (x ∷ c) l = ap suc (corner_long reach c (omega (arith, l)))

zeros_long : (reach : List Reach) → length (zeros reach) ≡ length reach
zeros_long [] = refl
zeros_long (r ∷ reach) = ap suc (zeros_long reach)

pub as_wide : (reach : List Reach) (w : Grid) (c : Coordinate) → w.low.items ≡ zeros reach → length c ≡ length reach → length w.low.items ≡ length (corner_of reach c)
as_wide reach w c low l = ap length low ∙ zeros_long reach ∙ sym (corner_long reach c l)

pub set_placed : (reach : List Reach) (grid w origin : Grid) (offsets : List ℕ) (area : Bounds) (c : Coordinate) (base k : ℕ) → IsSet reach grid w origin offsets area → is_inside area c ≡ true → base ≡ position_in grid.low.items grid.lengths.items (corner_of reach c) → k < length offsets
    → IsPlacedAt grid w (corner_of reach c) base offsets k
set_placed reach grid w origin offsets area c base k s e at h =
    let long = s.offsets_are.long in
    spots_placed grid w origin reach c base offsets k s.grid_is s.window_is s.low s.lengths (s.each c e) s.origin_low s.origin_lengths s.fits (s.held c e) at s.offsets_are (omega (arith, h, long))
