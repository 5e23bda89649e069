-- Boxes with all places whose blocks have a place of a box.
use Rattle.std.proofs.Common.{◌≡◌, ℕ, ◌-◌, ◌/◌, ◌<◌, ◌≤◌, ◌^◌, ℤ, pos, negsuc, ◌+ℤ◌, ◌-ℤ◌, ◌≤ℤ◌, Bool, true, false, cond, ◌&&◌, List, [], ◌∷◌, ◌++◌, append_assoc, length, refl, sym, ap, ◌∙◌, subst, arith}
use Rattle.std.proofs.Math.Nat.{div-mul-le_self}
use Rattle.std.proofs.lemmas.Int.{ints, clamps}
use Rattle.std.proofs.lemmas.Nat.{le-div}
use Rattle.std.specs.Int.{w64, saturate_signed}
use Rattle.std.specs.Prelude.{int_le, int_lt, slice_index_or, unsigned_abs}
use Rattle.cell_values.specs.declared.schema.Dimension.{Dimension}
use Rattle.array_rows.specs.Boxes.{bounds_of, by_pairs, is_between, is_inside}
use Rattle.array_rows.specs.Rows.{Coordinate}
use Rattle.array_geom.specs.Inner.Ranges.{AreNear}
use Rattle.array_geom.proofs.Fronts.{rest, rest_is}
use Rattle.array_geom.proofs.TestLaws.{and_both, and_parts, le_test, le_from_test}
use Rattle.logical_plan.specs.ShapeSchemas.{enlarged}
use Rattle.logical_plan.specs.Shapes.{blocks_back, place_of}
use Rattle.shape_rows.specs.Laws.{AllEnlarge}
use Rattle.shape_exec.specs.Inner.Spread.{place_from, places_from}

quotients : (n m size : ℕ) → 0 < size → n ≤ m → n / size ≤ m / size
quotients n m size p h =
    let fewer = div-mul-le_self n size in
    le-div (n / size) m size p (omega (arith, fewer, h))

-- numbers of places from the low bound on rise with the places
places_rise : (lo y z : ℤ) (size : ℕ) → 0 < size → lo ≤ℤ y → y ≤ℤ z → (lo +ℤ pos (unsigned_abs (y -ℤ lo) / size)) ≤ℤ (lo +ℤ pos (unsigned_abs (z -ℤ lo) / size))
places_rise lo y z size p a b =
    let q = quotients (unsigned_abs (y -ℤ lo)) (unsigned_abs (z -ℤ lo)) size p (omega (arith, ints)) in
    omega (arith, ints, q)

at_low : (lo : ℤ) (k : ℕ) → lo ≤ℤ (lo +ℤ pos k)
at_low lo k = omega (arith, ints)

-- saturated numbers lie where the numbers do, beside one that 64 bits hold
clamped_below : (z x : ℤ) → negsuc (2 ^ 63 - 1) ≤ℤ x → z ≤ℤ x → saturate_signed w64 z ≤ℤ x
clamped_below (pos n) x low h = omega (arith, ints, clamps)
clamped_below (negsuc n) x low h = omega (arith, ints, clamps)

clamped_above : (z x : ℤ) → x ≤ℤ pos (2 ^ 63 - 1) → x ≤ℤ z → x ≤ℤ saturate_signed w64 z
clamped_above (pos n) x high h = omega (arith, ints, clamps)
clamped_above (negsuc n) x high h = omega (arith, ints, clamps)

from_below : (d : Dimension) (size : ℕ) (l y : ℤ) → 0 < size → d.lo ≤ℤ y → l ≤ℤ y → negsuc (2 ^ 63 - 1) ≤ℤ place_of d size y → place_from d size l ≤ℤ place_of d size y
from_below d size l y p a b few = cases (int_lt l d.lo) refl
  where
    past : (x z : ℤ) → int_lt x z ≡ false → z ≤ℤ x
    past x z e = grind (arith, ints)

    cases : (t : Bool) → int_lt l d.lo ≡ t → cond t d.lo (saturate_signed w64 (place_of d size l)) ≤ℤ place_of d size y
    cases true e = at_low d.lo (unsigned_abs (y -ℤ d.lo) / size)
    cases false e = clamped_below (place_of d size l) (place_of d size y) few (places_rise d.lo l y size p (past l d.lo e) b)

from_above : (d : Dimension) (size : ℕ) (h y : ℤ) → 0 < size → d.lo ≤ℤ y → y ≤ℤ h → place_of d size y ≤ℤ pos (2 ^ 63 - 1) → place_of d size y ≤ℤ place_from d size h
from_above d size h y p a b few = cases (int_lt h d.lo) refl
  where
    not_past : (x z w : ℤ) → int_lt x z ≡ true → z ≤ℤ w → w ≤ℤ x → ⊥
    not_past x z w e f g = grind (arith, ints)

    cases : (t : Bool) → int_lt h d.lo ≡ t → place_of d size y ≤ℤ cond t d.lo (saturate_signed w64 (place_of d size h))
    cases true e = absurd (not_past h d.lo y e a b)
    cases false e = clamped_above (place_of d size h) (place_of d size y) few (places_rise d.lo y h size p a b)

far_low : (lo x : ℤ) → negsuc (2 ^ 62 - 2) ≤ℤ lo → lo ≤ℤ x → negsuc (2 ^ 63 - 1) ≤ℤ x
far_low lo x a b = omega (arith, ints)

far_high : (hi x : ℤ) → hi ≤ℤ pos (2 ^ 62 - 1) → x ≤ℤ hi → x ≤ℤ pos (2 ^ 63 - 1)
far_high hi x a b = omega (arith, ints)

-- what comes from the source's bounds comes from the box
pub box_from : (dims : List Dimension) (sizes : List ℕ) (lo hi y : Coordinate) → AreNear dims → AllEnlarge dims sizes → is_inside (bounds_of (by_pairs enlarged dims sizes)) y ≡ true → is_between lo hi y ≡ true → is_inside (bounds_of dims) (blocks_back dims sizes y) ≡ true
    → is_between (places_from dims sizes lo) (places_from dims sizes hi) (blocks_back dims sizes y) ≡ true
box_from [] [] lo hi y near en t a s = refl
box_from [] (size ∷ sizes) lo hi y near en t a s = absurd en
box_from (d ∷ dims) [] lo hi y near en t a s = absurd en
box_from (d ∷ dims) (size ∷ sizes) lo hi [] near en t a s = absurd cc
box_from (d ∷ dims) (size ∷ sizes) [] [] (x ∷ y) near en t a s = absurd cc
box_from (d ∷ dims) (size ∷ sizes) [] (h ∷ hi) (x ∷ y) near en t a s = absurd cc
box_from (d ∷ dims) (size ∷ sizes) (l ∷ lo) [] (x ∷ y) near en t a s = absurd cc
box_from (d ∷ dims) (size ∷ sizes) (l ∷ lo) (h ∷ hi) (x ∷ y) near en t a s =
    let p = and_parts (int_le d.lo x && int_le x (enlarged d size).hi) (is_inside (bounds_of (by_pairs enlarged dims sizes)) y) t in
    let q = and_parts (int_le d.lo x) (int_le x (enlarged d size).hi) p.0 in
    let r = and_parts (int_le l x && int_le x h) (is_between lo hi y) a in
    let u = and_parts (int_le l x) (int_le x h) r.0 in
    let v = and_parts (int_le d.lo (place_of d size x) && int_le (place_of d size x) d.hi) (is_inside (bounds_of dims) (blocks_back dims sizes y)) s in
    let w = and_parts (int_le d.lo (place_of d size x)) (int_le (place_of d size x) d.hi) v.0 in
    let few = far_low d.lo (place_of d size x) near.0.low (le_from_test d.lo (place_of d size x) w.0) in
    let many = far_high d.hi (place_of d size x) near.0.high (le_from_test (place_of d size x) d.hi w.1) in
    let low = from_below d size l x en.0.0 (le_from_test d.lo x q.0) (le_from_test l x u.0) few in
    let high = from_above d size h x en.0.0 (le_from_test d.lo x q.0) (le_from_test x h u.1) many in
    and_both _ _ (and_both _ _ (le_test (place_from d size l) (place_of d size x) low) (le_test (place_of d size x) (place_from d size h) high)) (box_from dims sizes lo hi y near.1 en.1 p.1 r.1 v.1)

-- ---- places that are pushed

pub first_enlarges : (dims : List Dimension) (sizes : List ℕ) → 1 ≤ length dims → 1 ≤ length sizes → AllEnlarge dims sizes → 0 < slice_index_or sizes 0 0
first_enlarges [] sizes a b en = absurd (omega (arith, a))
first_enlarges (d ∷ dims) [] a b en = absurd (omega (arith, b))
first_enlarges (d ∷ dims) (size ∷ sizes) a b en = en.0.0

pub rest_enlarges : (dims : List Dimension) (sizes : List ℕ) → 1 ≤ length dims → 1 ≤ length sizes → AllEnlarge dims sizes → AllEnlarge (rest dims) (rest sizes)
rest_enlarges [] sizes a b en = absurd (omega (arith, a))
rest_enlarges (d ∷ dims) [] a b en = absurd (omega (arith, b))
rest_enlarges (d ∷ dims) (size ∷ sizes) a b en = subst (λ (ds : List Dimension). AllEnlarge ds (rest (size ∷ sizes))) (sym (rest_is d dims)) (subst (AllEnlarge dims) (sym (rest_is size sizes)) en.1)

pub places_pushed : (dims : List Dimension) (sizes : List ℕ) (at : List ℤ) (d : Dimension) (old more new : List ℤ) (z : ℤ) → 1 ≤ length dims → 1 ≤ length sizes → 1 ≤ length at → d ≡ slice_index_or dims 0 d
    → more ≡ old ++ z ∷ [] → new ≡ more ++ places_from (rest dims) (rest sizes) (rest at)
    → z ≡ place_from d (slice_index_or sizes 0 0) (slice_index_or at 0 (pos 0)) → new ≡ old ++ places_from dims sizes at
places_pushed [] sizes at d old more new z a b c e f g h = absurd (omega (arith, a))
places_pushed (x ∷ dims) [] at d old more new z a b c e f g h = absurd (omega (arith, b))
places_pushed (x ∷ dims) (size ∷ sizes) [] d old more new z a b c e f g h = absurd (omega (arith, c))
places_pushed (x ∷ dims) (size ∷ sizes) (n ∷ at) d old more new z a b c e f g h =
    g ∙ (λ i. f i ++ places_from (rest_is x dims i) (rest_is size sizes i) (rest_is n at i)) ∙ append_assoc old (z ∷ []) (places_from dims sizes at)
    ∙ ap (λ (p : ℤ). old ++ p ∷ places_from dims sizes at) (h ∙ ap (λ (y : Dimension). place_from y size n) e)
