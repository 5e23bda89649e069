-- What a part and a slice need of their source.
use Rattle.std.proofs.Common.{◌≡◌, ℕ, zero, suc, ◌+◌, ◌-◌, ◌^◌, ℤ, pos, negsuc, ◌+ℤ◌, ◌-ℤ◌, ◌≤ℤ◌, Bool, true, false, List, [], ◌∷◌, length, cond, Option, Some, None, Result, Ok, Err, refl, sym, ap, ◌∙◌, subst, arith}
use Rattle.std.specs.Prelude.{◌||◌, ◌==◌, int_lt, slice_get, slice_index_or, IfOk, ⊤}
use Rattle.std.specs.Int.{int_max, int_min, w64, saturate_signed}
use Rattle.std.specs.List.{AllByRecursion, list_any, list_all, find}
use Rattle.std.specs.Option.{option_map}
use Rattle.std.specs.Ordering.{int_eq}
use Rattle.std.proofs.lemmas.Bool.{false≢true, and_parts, eqb-true}
use Rattle.std.proofs.lemmas.Int.{ints, clamps}
use Rattle.cell_values.specs.declared.datum.Broken.{Broken}
use Rattle.cell_values.specs.declared.datum.Row.{Row}
use Rattle.cell_values.specs.declared.schema.Bounds.{Bounds}
use Rattle.cell_values.specs.declared.schema.Dimension.{Dimension}
use Rattle.cell_values.specs.declared.schema.Schema.{Schema}
use Rattle.cell_values.specs.Schemas.{IsValid}
use Rattle.array_rows.specs.Arrays.{Meant}
use Rattle.array_rows.specs.Boxes.{by_pairs, corners, is_inside, within, meet, bounds_of, moved}
use Rattle.array_rows.specs.Rows.{Coordinate}
use Rattle.array_geom.specs.Inner.Ranges.{AreNear}
use Rattle.array_geom.proofs.NearLemmas.{near_slice}
use Rattle.logical_plan.specs.declared.parts.Fixed.{Fixed}
use Rattle.logical_plan.specs.BoxOps.{items_but, fixed_places, has_fixed, subarray_rows, slice_rows}
use Rattle.logical_plan.specs.Faults.{if_whole}
use Rattle.plan_needs.specs.declared.stretch.Stretch.{Stretch}
use Rattle.plan_needs.specs.Sides.{Sides, box_of, of_subarray, next_side, filled, held_at, misses, has_beyond, of_slice}
use Rattle.plan_needs.specs.Stretches.{stretch, lifted}
use Rattle.plan_needs.proofs.AlikeScans.{low_length}
use Rattle.plan_needs.proofs.AlikeSteps.{needless, needless_of}
use Rattle.plan_needs.proofs.EmptyBoxes.{still_inside, length-unless_nothing}
use Rattle.plan_needs.proofs.Inside.{AreInside, Inside, side_parts, side_from}

-- ---- what depends on a part alone is alike where the parts are

pub alike_by : (P : List Row → Type 0) (box part : Bounds) (op : List Row → List Row) → ((rows : List Row) → P rows → within box (op rows) ≡ within box (op (within part rows)))
    → (x y : Result (List Row) Broken) → IfOk x P → IfOk y P → if_whole (within part) x ≡ if_whole (within part) y → if_whole (within box) (if_whole op x) ≡ if_whole (within box) (if_whole op y)
alike_by P box part op depends x y p q h =
    on_part x p ∙ ap (λ (r : Result (List Row) Broken). if_whole (λ (rows : List Row). within box (op rows)) r) h ∙ sym (on_part y q)
  where
    on_part : (r : Result (List Row) Broken) → IfOk r P → if_whole (within box) (if_whole op r) ≡ if_whole (λ (rows : List Row). within box (op rows)) (if_whole (within part) r)
    on_part (Ok rows) i = ap (λ (l : List Row). Ok l) (depends rows i)
    on_part (Err broken) i = refl

-- ---- sums at the limits

pub sat_low : (z x : ℤ) → z ≤ℤ x → negsuc (2 ^ 63 - 1) ≤ℤ x → saturate_signed w64 z ≤ℤ x
sat_low (pos n) x l f = omega (arith, ints)
sat_low (negsuc n) x l f = omega (arith, ints)

pub sat_high : (z x : ℤ) → x ≤ℤ z → x ≤ℤ pos (2 ^ 63 - 1) → x ≤ℤ saturate_signed w64 z
sat_high (pos n) x l f = omega (arith, ints)
sat_high (negsuc n) x l f = omega (arith, ints)

Fits : ℤ → Type 0
Fits x = (negsuc (2 ^ 63 - 1) ≤ℤ x) × (x ≤ℤ pos (2 ^ 63 - 1))

-- the numbers of a coordinate in a part of valid dimensions have 64 bits
part_fits : (dims : List Dimension) (lo hi : List ℤ) (c : Coordinate) → AreNear dims → is_inside (meet (bounds_of dims) (corners lo hi)) c ≡ true → AllByRecursion Fits c
unfolding Fits
part_fits dims lo hi [] near e = tt
part_fits [] lo hi (x ∷ c) near e = absurd (false≢true e)
part_fits (d ∷ dims) [] [] (x ∷ c) near e = absurd (false≢true e)
part_fits (d ∷ dims) [] (h ∷ hi) (x ∷ c) near e = absurd (false≢true e)
part_fits (d ∷ dims) (l ∷ lo) [] (x ∷ c) near e = absurd (false≢true e)
part_fits (d ∷ dims) (l ∷ lo) (h ∷ hi) (x ∷ c) near e =
    let p = side_parts (int_max d.lo l) (int_min d.hi h) x (is_inside (meet (bounds_of dims) (corners lo hi)) c) e in
    let low = near.0.low in
    let high = near.0.high in
    ((omega (arith, ints, clamps), omega (arith, ints, clamps)), part_fits dims lo hi c near.1 p.2)

-- ---- a part, moved

lifted_inside : (sides : Sides) (lows : List ℤ) (c : Coordinate) → length c ≡ length lows → AllByRecursion Fits c → is_inside (box_of sides) (by_pairs (λ x l. x -ℤ l) c lows) ≡ true → is_inside (box_of (by_pairs lifted sides lows)) c ≡ true
unfolding Fits
lifted_inside [] lows [] len fits e = refl
lifted_inside [] [] (x ∷ c) len fits e = absurd (omega arith)
lifted_inside [] (l ∷ lows) (x ∷ c) len fits e = absurd (false≢true e)
lifted_inside (s ∷ sides) [] [] len fits e = absurd (false≢true e)
lifted_inside (s ∷ sides) [] (x ∷ c) len fits e = absurd (omega arith)
lifted_inside (s ∷ sides) (l ∷ lows) [] len fits e = absurd (omega arith)
lifted_inside (s ∷ sides) (l ∷ lows) (x ∷ c) len fits e =
    let p = side_parts s.first s.last (x -ℤ l) (is_inside (box_of sides) (by_pairs (λ y m. y -ℤ m) c lows)) e in
    let above : (s.first +ℤ l) ≤ℤ x = omega (arith, ints) in
    let below : x ≤ℤ (s.last +ℤ l) = omega (arith, ints) in
    side_from (saturate_signed w64 (s.first +ℤ l)) (saturate_signed w64 (s.last +ℤ l)) x _ (sat_low (s.first +ℤ l) x above fits.0.0) (sat_high (s.last +ℤ l) x below fits.0.1)
    (lifted_inside sides lows c (omega arith) fits.1 p.2)

part_depends : (schema : Schema) (area : Bounds) (sides : Sides) → IsValid schema → (rows : List Row)
    → within (box_of sides) (subarray_rows (meet (bounds_of schema.dimensions) area) rows) ≡ within (box_of sides) (subarray_rows (meet (bounds_of schema.dimensions) area) (within (box_of (of_subarray schema.dimensions area sides)) rows))
part_depends schema area sides valid rows =
    let part : Bounds = meet (bounds_of schema.dimensions) area in
    needless (λ (row : Row). is_inside (box_of sides) row.at.items) (moved (λ c. by_pairs (λ x l. x -ℤ l) c part.lo.items)) (λ (row : Row). is_inside part row.at.items)
    (λ (row : Row). is_inside (box_of (of_subarray schema.dimensions area sides)) row.at.items)
    (λ row e f. lifted_inside sides part.lo.items row.at.items (sym (low_length part.lo.items part.hi.items row.at.items e).0)
    (part_fits schema.dimensions area.lo.items area.hi.items row.at.items (near_slice schema schema.dimensions refl valid) e) f) rows

any_rows : List Row → Type 0
any_rows rows = ⊤

is_any : (r : Result (List Row) Broken) → IfOk r any_rows
unfolding any_rows
is_any (Ok rows) = tt
is_any (Err broken) = tt

pub alike_part : (schema : Schema) (area : Bounds) (sides : Sides) → IsValid schema → (m n : Meant) → m.schema ≡ schema → n.schema ≡ schema
    → if_whole (within (box_of (of_subarray schema.dimensions area sides))) m.rows ≡ if_whole (within (box_of (of_subarray schema.dimensions area sides))) n.rows
    → if_whole (within (box_of sides)) (if_whole (subarray_rows (meet (bounds_of m.schema.dimensions) area)) m.rows) ≡ if_whole (within (box_of sides)) (if_whole (subarray_rows (meet (bounds_of n.schema.dimensions) area)) n.rows)
unfolding any_rows
alike_part schema area sides valid m n e f h =
    ap (λ (s : Schema). if_whole (within (box_of sides)) (if_whole (subarray_rows (meet (bounds_of s.dimensions) area)) m.rows)) e
    ∙ alike_by any_rows (box_of sides) (box_of (of_subarray schema.dimensions area sides)) (subarray_rows (meet (bounds_of schema.dimensions) area)) (λ rows i. part_depends schema area sides valid rows) m.rows n.rows (is_any m.rows) (is_any n.rows) h
    ∙ ap (λ (s : Schema). if_whole (within (box_of sides)) (if_whole (subarray_rows (meet (bounds_of s.dimensions) area)) n.rows)) (sym f)

-- ---- dimensions that are filled in

abbrev pub Holds : Option Stretch → ℤ → Type 0
Holds None x = ⊤
Holds (Some s) x = (s.first ≤ℤ x) × (x ≤ℤ s.last)

-- the numbers of a coordinate, the first of which is numbered n, lie in the stretches that are given for them
abbrev pub GivenHold : (ℕ → Option Stretch) → ℕ → Coordinate → Type 0
GivenHold given n [] = ⊤
GivenHold given n (x ∷ c) = Holds (given n) x × GivenHold given (n + 1) c

abbrev pub is_there : Option Stretch → Bool
is_there None = false
is_there (Some s) = true

shared_side : (d : Dimension) (s : Stretch) (x : ℤ) → d.lo ≤ℤ x → x ≤ℤ d.hi → s.first ≤ℤ x → x ≤ℤ s.last → (int_max d.lo s.first ≤ℤ x) × (x ≤ℤ int_min d.hi s.last)
shared_side d s x a b f g = (omega (arith, ints, clamps), omega (arith, ints, clamps))

pub filled_inside : (given : ℕ → Option Stretch) (places : List ℕ) → ((k : ℕ) → list_any (λ p. p == k) places ≡ is_there (given k)) → (n : ℕ) (dims : List Dimension) (sides : Sides) (c : Coordinate)
    → is_inside (bounds_of dims) c ≡ true → GivenHold given n c → is_inside (box_of sides) (items_but places n c) ≡ true → is_inside (box_of (filled given n dims sides)) c ≡ true
filled_inside given places same n [] sides [] e h f = refl
filled_inside given places same n [] sides (x ∷ c) e h f = absurd (false≢true e)
filled_inside given places same n (d ∷ dims) sides [] e h f = absurd (false≢true e)
filled_inside given places same n (d ∷ dims) sides (x ∷ c) e h f =
    let p = side_parts d.lo d.hi x (is_inside (bounds_of dims) c) e in
    by_given (given n) p.0 p.1 h.0 (λ rest i. filled_inside given places same (n + 1) dims rest c p.2 h.1 i) sides
    (subst (λ (b : Bool). is_inside (box_of sides) (cond b (items_but places (n + 1) c) (x ∷ items_but places (n + 1) c)) ≡ true) (same n) f)
  where
    by_given : (o : Option Stretch) → d.lo ≤ℤ x → x ≤ℤ d.hi → Holds o x → ((rest : Sides) → is_inside (box_of rest) (items_but places (n + 1) c) ≡ true → is_inside (box_of (filled given (n + 1) dims rest)) c ≡ true)
        → (all : Sides) → is_inside (box_of all) (cond (is_there o) (items_but places (n + 1) c) (x ∷ items_but places (n + 1) c)) ≡ true
        → is_inside (box_of (next_side o d all (λ rest. filled given (n + 1) dims rest))) (x ∷ c) ≡ true
    by_given (Some s) a b g ih all i =
        let q = shared_side d s x a b g.0 g.1 in
        side_from (int_max d.lo s.first) (int_min d.hi s.last) x _ q.0 q.1 (ih all i)
    by_given None a b g ih [] i = absurd (false≢true i)
    by_given None a b g ih (s ∷ rest) i =
        let r = side_parts s.first s.last x (is_inside (box_of rest) (items_but places (n + 1) c)) i in
        let q = shared_side d s x a b r.0 r.1 in
        side_from (int_max d.lo s.first) (int_min d.hi s.last) x _ q.0 q.1 (ih rest r.2)

-- what holds of each number of a coordinate holds of all of them
pub given_hold : (given : ℕ → Option Stretch) (z : Coordinate) → ((n : ℕ) (x : ℤ) → slice_index_or z n (pos 0) ≡ x → Holds (given n) x) → (n : ℕ) (c : Coordinate)
    → ((k : ℕ) → slice_index_or z (n + k) (pos 0) ≡ slice_index_or c k (pos 0)) → GivenHold given n c
given_hold given z holds n [] at = tt
given_hold given z holds n (x ∷ c) at = (
  holds n x (ap (λ (k : ℕ). slice_index_or z k (pos 0)) (first n) ∙ at 0),
  given_hold given z holds (n + 1) c (λ k. ap (λ (m : ℕ). slice_index_or z m (pos 0)) (later n k) ∙ at (suc k)),
)
  where
    first : (m : ℕ) → m ≡ m + 0
    first m = omega arith

    later : (m k : ℕ) → (m + 1) + k ≡ m + suc k
    later m k = omega arith

-- ---- a slice

named_fixed : (k : ℕ) (fixed : List Fixed) → list_any (λ p. p == k) (fixed_places fixed) ≡ is_there (held_at fixed k)
named_fixed k [] = refl
named_fixed k (f ∷ fixed) = by_test (f.dimension == k) (named_fixed k fixed)
  where
    by_test : (b : Bool) → list_any (λ p. p == k) (fixed_places fixed) ≡ is_there (option_map (λ f. stretch f.at f.at) (find (λ f. f.dimension == k) fixed))
        → (b || list_any (λ p. p == k) (fixed_places fixed)) ≡ is_there (option_map (λ f. stretch f.at f.at) (cond b (Some f) (find (λ f. f.dimension == k) fixed)))
    by_test true ih = refl
    by_test false ih = ih

-- a number that is held is that one
held_number : (fixed : List Fixed) (z : Coordinate) (n : ℕ) (x : ℤ) → slice_index_or z n (pos 0) ≡ x → list_all (λ f. int_eq (slice_index_or z f.dimension (pos 0)) f.at) fixed ≡ true
    → Holds (option_map (λ f. stretch f.at f.at) (find (λ f. f.dimension == n) fixed)) x
held_number [] z n x e all = tt
held_number (f ∷ fixed) z n x e all =
    let p = and_parts (int_eq (slice_index_or z f.dimension (pos 0)) f.at) (list_all (λ g. int_eq (slice_index_or z g.dimension (pos 0)) g.at) fixed) all in
    by_test (f.dimension == n) refl (same_number (slice_index_or z f.dimension (pos 0)) f.at p.0) (held_number fixed z n x e p.1)
  where
    same_number : (a b : ℤ) → int_eq a b ≡ true → a ≡ b
    same_number a b t = grind (arith, ints)

    by_test : (b : Bool) → (f.dimension == n) ≡ b → slice_index_or z f.dimension (pos 0) ≡ f.at → Holds (option_map (λ g. stretch g.at g.at) (find (λ g. g.dimension == n) fixed)) x
        → Holds (option_map (λ g. stretch g.at g.at) (cond b (Some f) (find (λ g. g.dimension == n) fixed))) x
    by_test false t at ih = ih
    by_test true t at ih =
        let here : f.at ≡ x = sym at ∙ ap (λ (k : ℕ). slice_index_or z k (pos 0)) (eqb-true f.dimension n t) ∙ e in
        (omega (arith, ints), omega (arith, ints))

-- a number within bounds does not miss them
number_meets : (dims : List Dimension) (c : Coordinate) (f : Fixed) (n : ℕ) → is_inside (bounds_of dims) c ≡ true → int_eq (slice_index_or c n (pos 0)) f.at ≡ true → misses f (slice_get dims n) ≡ false
number_meets [] c f n e h = refl
number_meets (d ∷ dims) [] f n e h = absurd (false≢true e)
number_meets (d ∷ dims) (x ∷ c) f zero e h = let p = side_parts d.lo d.hi x (is_inside (bounds_of dims) c) e in within_side d.lo d.hi x f.at p.0 p.1 h
  where
    below : (l h x y : ℤ) → l ≤ℤ x → x ≤ℤ h → int_eq x y ≡ true → int_lt y l ≡ false
    below l h x y a b t = grind (arith, ints)

    above : (l h x y : ℤ) → l ≤ℤ x → x ≤ℤ h → int_eq x y ≡ true → int_lt h y ≡ false
    above l h x y a b t = grind (arith, ints)

    within_side : (l h x y : ℤ) → l ≤ℤ x → x ≤ℤ h → int_eq x y ≡ true → (int_lt y l || int_lt h y) ≡ false
    within_side l h x y a b t = λ i. below l h x y a b t i || above l h x y a b t i
number_meets (d ∷ dims) (x ∷ c) f (suc n) e h = number_meets dims c f n (side_parts d.lo d.hi x (is_inside (bounds_of dims) c) e).2 h

none_beyond : (dims : List Dimension) (fixed : List Fixed) (c : Coordinate) → is_inside (bounds_of dims) c ≡ true → has_fixed fixed c ≡ true → has_beyond dims fixed ≡ false
none_beyond dims [] c e h = refl
none_beyond dims (f ∷ fixed) c e h =
    let p = and_parts (int_eq (slice_index_or c f.dimension (pos 0)) f.at) (list_all (λ g. int_eq (slice_index_or c g.dimension (pos 0)) g.at) fixed) h in
    λ i. number_meets dims c f f.dimension e p.0 i || none_beyond dims fixed c e p.1 i

slice_depends : (dims : List Dimension) (fixed : List Fixed) (sides : Sides) (rows : List Row) → AreInside dims rows
    → within (box_of sides) (slice_rows fixed rows) ≡ within (box_of sides) (slice_rows fixed (within (box_of (of_slice dims fixed sides)) rows))
slice_depends dims fixed sides rows i =
    needless_of (Inside dims) (λ (row : Row). is_inside (box_of sides) row.at.items) (moved (items_but (fixed_places fixed) 0)) (λ (row : Row). has_fixed fixed row.at.items)
    (λ (row : Row). is_inside (box_of (of_slice dims fixed sides)) row.at.items)
    (λ row inside e f. still_inside (has_beyond dims fixed) (filled (held_at fixed) 0 dims sides) row.at.items (none_beyond dims fixed row.at.items inside e) (filled_inside (held_at fixed) (fixed_places fixed) (λ k. named_fixed k fixed) 0 dims sides row.at.items inside
    (given_hold (held_at fixed) row.at.items (λ n x same. held_number fixed row.at.items n x same e) 0 row.at.items (λ k. ap (λ (m : ℕ). slice_index_or row.at.items m (pos 0)) (from_zero k))) f)) rows i
  where
    from_zero : (k : ℕ) → 0 + k ≡ k
    from_zero k = omega arith

pub alike_slice : (dims : List Dimension) (fixed : List Fixed) (sides : Sides) (x y : Result (List Row) Broken) → IfOk x (AreInside dims) → IfOk y (AreInside dims)
    → if_whole (within (box_of (of_slice dims fixed sides))) x ≡ if_whole (within (box_of (of_slice dims fixed sides))) y → if_whole (within (box_of sides)) (if_whole (slice_rows fixed) x) ≡ if_whole (within (box_of sides)) (if_whole (slice_rows fixed) y)
alike_slice dims fixed sides x y i j h = alike_by (AreInside dims) (box_of sides) (box_of (of_slice dims fixed sides)) (slice_rows fixed) (slice_depends dims fixed sides) x y i j h

-- ---- lengths

pub length-filled : (given : ℕ → Option Stretch) (places : List ℕ) → ((k : ℕ) → list_any (λ p. p == k) places ≡ is_there (given k)) → (n : ℕ) (dims : List Dimension) (sides : Sides)
    → length sides ≡ length (items_but places n dims) → length (filled given n dims sides) ≡ length dims
length-filled given places same n [] sides e = refl
length-filled given places same n (d ∷ dims) sides e =
    by_given (given n) (λ rest f. length-filled given places same (n + 1) dims rest f) sides
    (subst (λ (b : Bool). length sides ≡ length (cond b (items_but places (n + 1) dims) (d ∷ items_but places (n + 1) dims))) (same n) e)
  where
    by_given : (o : Option Stretch) → ((rest : Sides) → length rest ≡ length (items_but places (n + 1) dims) → length (filled given (n + 1) dims rest) ≡ length dims)
        → (all : Sides) → length all ≡ length (cond (is_there o) (items_but places (n + 1) dims) (d ∷ items_but places (n + 1) dims))
        → length (next_side o d all (λ rest. filled given (n + 1) dims rest)) ≡ suc (length dims)
    by_given (Some s) ih all f = ap suc (ih all f)
    by_given None ih [] f = absurd (omega arith)
    by_given None ih (s ∷ rest) f = ap suc (ih rest (omega arith))

pub length-slice : (dims : List Dimension) (fixed : List Fixed) (sides : Sides) → length sides ≡ length (items_but (fixed_places fixed) 0 dims) → length (of_slice dims fixed sides) ≡ length dims
length-slice dims fixed sides e = length-unless_nothing (has_beyond dims fixed) (filled (held_at fixed) 0 dims sides) ∙ length-filled (held_at fixed) (fixed_places fixed) (λ k. named_fixed k fixed) 0 dims sides e
