-- Boxes as grids.
use Rattle.std.proofs.Common.{◌≡◌, ℕ, suc, ◌+◌, ◌*◌, ◌-◌, ◌/◌, ◌%◌, ◌<◌, ◌≤◌, ◌^◌, ℤ, pos, negsuc, ◌≤ℤ◌, ◌+ℤ◌, ◌-ℤ◌, true, ◌&&◌, List, [], ◌∷◌, length, get_or, refl, sym, ap, ◌∙◌, subst, arith}
use Rattle.std.specs.Prelude.{int_le, unsigned_abs}
use Rattle.std.proofs.lemmas.Bool.{false≢true}
use Rattle.std.proofs.lemmas.Int.{ints}
use Rattle.array_rows.specs.Boxes.{by_pairs, is_between}
use Rattle.array_rows.specs.Rows.{Coordinate}
use Rattle.array_geom.specs.declared.grid.Grid.{Grid}
use Rattle.array_geom.specs.Geometry.{volume}
use Rattle.array_geom.specs.Inner.Ranges.{AreLengths, AreLow, IsGrid, is_in_grid}
use Rattle.array_geom.proofs.Fronts.{rest, rest_is}
use Rattle.array_geom.proofs.PlaceLaws.{above}
use Rattle.array_geom.proofs.TestLaws.{and_both, and_parts, le_from_test, lt_test}
use Rattle.redimension_exec.specs.Inner.Spans.{HaveSpans, span}

-- ---- boxes

pub no_spans : (lo hi : List ℤ) (limit : ℕ) → length lo < 1 → length hi ≡ 0 → 1 ≤ limit → HaveSpans lo hi limit
no_spans [] [] limit l h some = some
no_spans [] (y ∷ hi) limit l h some = absurd (omega (arith, h))
no_spans (x ∷ lo) hi limit l h some = absurd (omega (arith, l))

pub front_spans : (lo hi : List ℤ) (limit wide : ℕ) → 1 ≤ length lo → 1 ≤ length hi → wide ≡ unsigned_abs (get_or hi 0 (pos 0) -ℤ get_or lo 0 (pos 0)) → get_or lo 0 (pos 0) ≤ℤ get_or hi 0 (pos 0) → negsuc (2 ^ 62 - 1) ≤ℤ get_or lo 0 (pos 0) → get_or hi 0 (pos 0) ≤ℤ pos (2 ^ 62)
    → wide < limit → HaveSpans (rest lo) (rest hi) (limit / (wide + 1)) → HaveSpans lo hi limit
front_spans [] hi limit wide some other e o l h less more = absurd (omega (arith, some))
front_spans (x ∷ lo) [] limit wide some other e o l h less more = absurd (omega (arith, other))
front_spans (x ∷ lo) (y ∷ hi) limit wide some other e o l h less more =
    let few : span x y ≤ limit = subst (λ (n : ℕ). n + 1 ≤ limit) e (omega (arith, less)) in
    (o, l, h, few, subst (λ (n : ℕ). HaveSpans lo hi (limit / (n + 1))) e (subst (λ (ls : List ℤ). HaveSpans ls hi (limit / (wide + 1))) (rest_is x lo) (subst (λ (hs : List ℤ). HaveSpans (rest (x ∷ lo)) hs (limit / (wide + 1))) (rest_is y hi) more)))

some_span : (l h : ℤ) → 0 < span l h
some_span l h = omega arith

bounded : (s x q limit : ℕ) → 0 < s → x ≤ limit / s → s * x ≤ limit
bounded s x q limit some h =
    let whole : limit / s * s + limit % s ≡ limit = whole_again limit s some in
    let more : s * x ≤ s * (limit / s) = times s x (limit / s) h in
    let same : s * (limit / s) ≡ limit / s * s = turned s (limit / s) in
    omega (arith, whole, more, same)
  where
    whole_again : (p v : ℕ) → 0 < v → p / v * v + p % v ≡ p
    whole_again p v k = grind arith

    times : (a b c : ℕ) → b ≤ c → a * b ≤ a * c
    times a b c k = grind arith

    turned : (a b : ℕ) → a * b ≡ b * a
    turned a b = grind arith

pub spans_volume : (lo hi : List ℤ) (limit : ℕ) → HaveSpans lo hi limit → volume (by_pairs span lo hi) ≤ limit
spans_volume [] [] limit h = h
spans_volume [] (y ∷ hi) limit h = absurd h
spans_volume (x ∷ lo) [] limit h = absurd h
spans_volume (x ∷ lo) (y ∷ hi) limit h = bounded (span x y) (volume (by_pairs span lo hi)) 0 limit (some_span x y) (spans_volume lo hi (limit / span x y) h.4)

pub spans_low : (lo hi : List ℤ) (limit : ℕ) → HaveSpans lo hi limit → AreLow lo
spans_low [] [] limit h = tt
spans_low [] (y ∷ hi) limit h = absurd h
spans_low (x ∷ lo) [] limit h = absurd h
spans_low (x ∷ lo) (y ∷ hi) limit h =
    let order = h.0 in
    let low = h.1 in
    let high = h.2 in
    ((omega (arith, ints, low), omega (arith, ints, order, high)), spans_low lo hi (limit / span x y) h.4)

pub spans_lengths : (lo hi : List ℤ) (limit : ℕ) → HaveSpans lo hi limit → AreLengths (by_pairs span lo hi)
spans_lengths [] [] limit h = tt
spans_lengths [] (y ∷ hi) limit h = absurd h
spans_lengths (x ∷ lo) [] limit h = absurd h
spans_lengths (x ∷ lo) (y ∷ hi) limit h = (some_span x y, spans_lengths lo hi (limit / span x y) h.4)

pub spans_each : (lo hi : List ℤ) (limit : ℕ) → HaveSpans lo hi limit → length lo ≡ length (by_pairs span lo hi)
spans_each [] [] limit h = refl
spans_each [] (y ∷ hi) limit h = absurd h
spans_each (x ∷ lo) [] limit h = absurd h
spans_each (x ∷ lo) (y ∷ hi) limit h = ap suc (spans_each lo hi (limit / span x y) h.4)

pub spans_hold : (lo hi : List ℤ) (limit : ℕ) (c : Coordinate) → HaveSpans lo hi limit → is_between lo hi c ≡ true → is_in_grid lo (by_pairs span lo hi) c ≡ true
spans_hold [] [] limit [] h e = refl
spans_hold [] [] limit (z ∷ c) h e = absurd (false≢true e)
spans_hold [] (y ∷ hi) limit c h e = absurd h
spans_hold (x ∷ lo) [] limit c h e = absurd h
spans_hold (x ∷ lo) (y ∷ hi) limit [] h e = absurd (false≢true e)
spans_hold (x ∷ lo) (y ∷ hi) limit (z ∷ c) h e =
    let t = and_parts (int_le x z && int_le z y) (is_between lo hi c) e in
    let u = and_parts (int_le x z) (int_le z y) t.0 in
    let low = le_from_test x z u.0 in
    let high = le_from_test z y u.1 in
    let far = above x y h.0 in
    and_both _ _ (and_both _ _ u.0 (lt_test z (x +ℤ pos (span x y)) (omega (arith, ints, low, high, far)))) (spans_hold lo hi (limit / span x y) c h.4 t.1)

pub spans_grid : (lo hi : List ℤ) (grid : Grid) → grid.low.items ≡ lo → grid.lengths.items ≡ by_pairs span lo hi → HaveSpans lo hi 16777216 → IsGrid grid
spans_grid lo hi grid e f h =
    let small = spans_volume lo hi 16777216 h in
    record {
      low = subst AreLow (sym e) (spans_low lo hi 16777216 h);
      lengths = subst AreLengths (sym f) (spans_lengths lo hi 16777216 h);
      each = ap length e ∙ spans_each lo hi 16777216 h ∙ sym (ap length f);
      places = subst (λ (ns : List ℕ). volume ns ≤ 2 ^ 48) (sym f) (omega (arith, small));
    }

pub grid_is : (lo hi lows highs : List ℤ) (grid : Grid) → lows ≡ lo → highs ≡ hi → grid.low.items ≡ lo → grid.lengths.items ≡ by_pairs span lows highs → HaveSpans lows highs 16777216 → IsGrid grid
grid_is lo hi lows highs grid e f g h spans =
    spans_grid lo hi grid g (h ∙ (λ i. by_pairs span (e i) (f i))) (subst (λ (ls : List ℤ). HaveSpans ls hi 16777216) e (subst (λ (hs : List ℤ). HaveSpans lows hs 16777216) f spans))

pub grid_holds : (lo hi lows highs : List ℤ) (grid : Grid) → lows ≡ lo → highs ≡ hi → grid.low.items ≡ lo → grid.lengths.items ≡ by_pairs span lows highs → HaveSpans lows highs 16777216
    → (c : Coordinate) → is_between lo hi c ≡ true → is_in_grid grid.low.items grid.lengths.items c ≡ true
grid_holds lo hi lows highs grid e f g h spans c inside =
    (λ i. is_in_grid (g i) ((h ∙ (λ j. by_pairs span (e j) (f j))) i) c)
    ∙ spans_hold lo hi 16777216 c (subst (λ (ls : List ℤ). HaveSpans ls hi 16777216) e (subst (λ (hs : List ℤ). HaveSpans lows hs 16777216) f spans)) inside
