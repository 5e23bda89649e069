-- Coordinates within bounds, through what operators make of them.
use Rattle.std.proofs.Common.{◌≡◌, ℕ, zero, suc, ◌+◌, ◌-◌, ◌/◌, ◌<◌, ◌≤◌, ◌^◌, ℤ, pos, negsuc, ◌-ℤ◌, ◌≤ℤ◌, unsigned_abs, Bool, true, false, List, [], ◌∷◌, ◌++◌, map, length, cond, Option, Some, None, refl, sym, ap, subst, arith}
use Rattle.std.specs.Prelude.{◌&&◌, ◌==◌, int_le, nat_lt, slice_get, slice_index_or, IsTrue}
use Rattle.std.specs.Int.{int_max, int_min, w64, saturate_signed}
use Rattle.std.specs.List.{AllByRecursion, list_any, list_all, cons_option}
use Rattle.std.proofs.lemmas.Bool.{false≢true, and_parts, and_from, ltb-true}
use Rattle.std.proofs.lemmas.Int.{ints, clamps}
use Rattle.std.proofs.lemmas.Nat.{le-div}
use Rattle.std.proofs.Math.Nat.{div-mul-le_self}
use Rattle.cell_values.specs.declared.datum.Cell.{Cell}
use Rattle.cell_values.specs.declared.datum.Row.{Row}
use Rattle.cell_values.specs.declared.schema.Dimension.{Dimension}
use Rattle.array_rows.specs.Boxes.{by_pairs, corners, is_inside, meet, bounds_of}
use Rattle.array_rows.specs.Cellwise.{cell_wise, put_first}
use Rattle.array_rows.specs.Rows.{Coordinate}
use Rattle.array_geom.specs.Inner.Ranges.{IsNear, AreNear}
use Rattle.array_geom.proofs.TestLaws.{le_test, le_from_test}
use Rattle.logical_plan.specs.BoxOps.{items_at, items_but, numbers_at}
use Rattle.logical_plan.specs.Groups.{block}
use Rattle.logical_plan.specs.PlanSchema.{subarray_dimensions, in_blocks, without_overlap, renamed_dimension}

abbrev pub Inside : List Dimension → Row → Type 0
Inside dims row = IsTrue (is_inside (bounds_of dims) row.at.items)

abbrev pub AreInside : List Dimension → List Row → Type 0
AreInside dims rows = AllByRecursion (Inside dims) rows

-- ---- cell by cell

pub changed_inside : (dims : List Dimension) (change : Coordinate → Cell → Option Cell) (rows : List Row) → AreInside dims rows → AreInside dims (cell_wise change rows)
changed_inside dims change [] i = tt
changed_inside dims change (row ∷ rows) i = here (change row.at.items row.cell) (changed_inside dims change rows i.1)
  where
    here : (o : Option Cell) → AreInside dims (cell_wise change rows) → AreInside dims (put_first row.at.items o (cell_wise change rows))
    here None ih = ih
    here (Some cell) ih = (i.0, ih)

-- ---- one dimension

pub side_parts : (l h x : ℤ) (more : Bool) → (int_le l x && int_le x h && more) ≡ true → (l ≤ℤ x) × (x ≤ℤ h) × (more ≡ true)
side_parts l h x more e =
    let a = and_parts (int_le l x && int_le x h) more e in
    let b = and_parts (int_le l x) (int_le x h) a.0 in
    (le_from_test l x b.0, le_from_test x h b.1, a.1)

pub side_from : (l h x : ℤ) (more : Bool) → l ≤ℤ x → x ≤ℤ h → more ≡ true → (int_le l x && int_le x h && more) ≡ true
side_from l h x more a b c = and_from (int_le l x && int_le x h) more (and_from (int_le l x) (int_le x h) (le_test l x a) (le_test x h b)) c

-- a number of 64 bits stays as it is
pub sat_same : (z : ℤ) → negsuc (2 ^ 63 - 1) ≤ℤ z → z ≤ℤ pos (2 ^ 63 - 1) → saturate_signed w64 z ≡ z
sat_same (pos n) a b = let l : n ≤ 2 ^ 63 - 1 = omega (arith, ints) in ap pos (omega arith)
sat_same (negsuc n) a b = let l : n ≤ 2 ^ 63 - 1 = omega (arith, ints) in ap negsuc (omega arith)

-- ---- a part, moved to 0

part_side : (d : Dimension) (low high x : ℤ) → IsNear d → int_max d.lo low ≤ℤ x → x ≤ℤ int_min d.hi high
    → (pos 0 ≤ℤ (x -ℤ int_max d.lo low)) × ((x -ℤ int_max d.lo low) ≤ℤ saturate_signed w64 (int_min d.hi high -ℤ int_max d.lo low))
part_side d low high x near a b =
    let near_low = near.low in
    let near_high = near.high in
    let same : saturate_signed w64 (int_min d.hi high -ℤ int_max d.lo low) ≡ (int_min d.hi high -ℤ int_max d.lo low) =
    sat_same (int_min d.hi high -ℤ int_max d.lo low) (omega (arith, ints, clamps)) (omega (arith, ints, clamps)) in
    let within : (x -ℤ int_max d.lo low) ≤ℤ (int_min d.hi high -ℤ int_max d.lo low) = omega (arith, ints, clamps) in
    (omega (arith, ints, clamps), subst (λ (z : ℤ). (x -ℤ int_max d.lo low) ≤ℤ z) (sym same) within)

pub part_inside : (dims : List Dimension) (lo hi : List ℤ) (c : Coordinate) → AreNear dims → is_inside (meet (bounds_of dims) (corners lo hi)) c ≡ true
    → is_inside (bounds_of (subarray_dimensions dims lo hi)) (by_pairs (λ x l. x -ℤ l) c (meet (bounds_of dims) (corners lo hi)).lo.items) ≡ true
part_inside [] lo hi [] near e = refl
part_inside [] lo hi (x ∷ c) near e = absurd (false≢true e)
part_inside (d ∷ dims) [] [] [] near e = refl
part_inside (d ∷ dims) [] [] (x ∷ c) near e = absurd (false≢true e)
part_inside (d ∷ dims) [] (h ∷ hi) [] near e = absurd (false≢true e)
part_inside (d ∷ dims) [] (h ∷ hi) (x ∷ c) near e = absurd (false≢true e)
part_inside (d ∷ dims) (l ∷ lo) [] [] near e = absurd (false≢true e)
part_inside (d ∷ dims) (l ∷ lo) [] (x ∷ c) near e = absurd (false≢true e)
part_inside (d ∷ dims) (l ∷ lo) (h ∷ hi) [] near e = absurd (false≢true e)
part_inside (d ∷ dims) (l ∷ lo) (h ∷ hi) (x ∷ c) near e =
    let p = side_parts (int_max d.lo l) (int_min d.hi h) x (is_inside (meet (bounds_of dims) (corners lo hi)) c) e in
    let q = part_side d l h x near.0 p.0 p.1 in
    side_from (pos 0) (saturate_signed w64 (int_min d.hi h -ℤ int_max d.lo l)) (x -ℤ int_max d.lo l) _ q.0 q.1 (part_inside dims lo hi c near.1 p.2)

-- ---- a slice

pub but_inside : (places : List ℕ) (n : ℕ) (dims : List Dimension) (c : Coordinate) → is_inside (bounds_of dims) c ≡ true → is_inside (bounds_of (items_but places n dims)) (items_but places n c) ≡ true
but_inside places n [] [] e = refl
but_inside places n [] (x ∷ c) e = absurd (false≢true e)
but_inside places n (d ∷ dims) [] e = absurd (false≢true e)
but_inside places n (d ∷ dims) (x ∷ c) e =
    let p = side_parts d.lo d.hi x (is_inside (bounds_of dims) c) e in
    by_test (list_any (λ place. place == n) places) p.0 p.1 (but_inside places (n + 1) dims c p.2)
  where
    by_test : (b : Bool) → d.lo ≤ℤ x → x ≤ℤ d.hi → is_inside (bounds_of (items_but places (n + 1) dims)) (items_but places (n + 1) c) ≡ true
        → is_inside (bounds_of (cond b (items_but places (n + 1) dims) (d ∷ items_but places (n + 1) dims))) (cond b (items_but places (n + 1) c) (x ∷ items_but places (n + 1) c)) ≡ true
    by_test true l h ih = ih
    by_test false l h ih = side_from d.lo d.hi x _ l h ih

-- ---- joins

renamed_low : (f : Dimension → ℤ) → ((d : Dimension) (name : List ℕ) → f (renamed_dimension d name) ≡ f d) → (dims : List Dimension) (names : List (List ℕ)) → length dims ≤ length names → map f (by_pairs renamed_dimension dims names) ≡ map f dims
renamed_low f h [] names l = refl
renamed_low f h (d ∷ dims) [] l = absurd (omega arith)
renamed_low f h (d ∷ dims) (name ∷ names) l = λ i. h d name i ∷ renamed_low f h dims names (omega arith) i

pub renamed_bounds : (dims : List Dimension) (names : List (List ℕ)) → length dims ≤ length names → bounds_of (by_pairs renamed_dimension dims names) ≡ bounds_of dims
renamed_bounds dims names l = λ i. corners (renamed_low (λ d. d.lo) (λ d name. refl) dims names l i) (renamed_low (λ d. d.hi) (λ d name. refl) dims names l i)

pub beside_inside : (a b : List Dimension) (c e : Coordinate) → is_inside (bounds_of a) c ≡ true → is_inside (bounds_of b) e ≡ true → is_inside (bounds_of (a ++ b)) (c ++ e) ≡ true
beside_inside [] b [] e f g = g
beside_inside [] b (x ∷ c) e f g = absurd (false≢true f)
beside_inside (d ∷ a) b [] e f g = absurd (false≢true f)
beside_inside (d ∷ a) b (x ∷ c) e f g =
    let p = side_parts d.lo d.hi x (is_inside (bounds_of a) c) f in
    side_from d.lo d.hi x _ p.0 p.1 (beside_inside a b c e p.2 g)

-- ---- groups

-- the numbers of a coordinate at named dimensions
pub named_inside : (places : List ℕ) (dims : List Dimension) (c : Coordinate) → list_all (λ place. nat_lt place (length dims)) places ≡ true → is_inside (bounds_of dims) c ≡ true
    → is_inside (bounds_of (map without_overlap (items_at places dims))) (numbers_at places c) ≡ true
named_inside [] dims c b e = refl
named_inside (p ∷ places) dims c b e =
    let q = and_parts (nat_lt p (length dims)) (list_all (λ place. nat_lt place (length dims)) places) b in
    one dims c p (ltb-true p (length dims) q.0) e (named_inside places dims c q.1 e)
  where
    one : (ds : List Dimension) (z : Coordinate) (n : ℕ) → n < length ds → is_inside (bounds_of ds) z ≡ true → is_inside (bounds_of (map without_overlap (items_at places dims))) (numbers_at places c) ≡ true
        → is_inside (bounds_of (map without_overlap (cons_option (slice_get ds n) (items_at places dims)))) (slice_index_or z n (pos 0) ∷ numbers_at places c) ≡ true
    one [] z n l i ih = absurd (omega arith)
    one (d ∷ ds) [] n l i ih = absurd (false≢true i)
    one (d ∷ ds) (x ∷ z) zero l i ih = let s = side_parts d.lo d.hi x (is_inside (bounds_of ds) z) i in side_from d.lo d.hi x _ s.0 s.1 ih
    one (d ∷ ds) (x ∷ z) (suc n) l i ih = one ds z n (omega arith) (side_parts d.lo d.hi x (is_inside (bounds_of ds) z) i).2 ih

-- ---- blocks

fewer_blocks : (n m size : ℕ) → n ≤ m → n / size ≤ m / size
fewer_blocks n m zero l = grind arith
fewer_blocks n m (suc size) l =
    let fewer = div-mul-le_self n (suc size) in
    le-div (n / suc size) m (suc size) (omega arith) (omega (arith, fewer, l))

no_more : (n size : ℕ) → n / size ≤ n
no_more n zero = grind arith
no_more n (suc size) = let fewer = div-mul-le_self n (suc size) in grind arith

block_side : (d : Dimension) (size : ℕ) (x : ℤ) → IsNear d → d.lo ≤ℤ x → x ≤ℤ d.hi → (d.lo ≤ℤ block d.lo size x) × (block d.lo size x ≤ℤ saturate_signed w64 (block d.lo size d.hi))
block_side d size x near l h =
    let low = near.low in
    let high = near.high in
    let order = near.order in
    let less : unsigned_abs (x -ℤ d.lo) ≤ unsigned_abs (d.hi -ℤ d.lo) = omega (arith, ints) in
    let fewer = fewer_blocks (unsigned_abs (x -ℤ d.lo)) (unsigned_abs (d.hi -ℤ d.lo)) size less in
    let all = no_more (unsigned_abs (d.hi -ℤ d.lo)) size in
    let same : saturate_signed w64 (block d.lo size d.hi) ≡ block d.lo size d.hi = sat_same (block d.lo size d.hi) (omega (arith, ints)) (omega (arith, ints)) in
    let upto : block d.lo size x ≤ℤ block d.lo size d.hi = omega (arith, ints) in
    (omega (arith, ints), subst (λ (z : ℤ). block d.lo size x ≤ℤ z) (sym same) upto)

pub blocks_inside : (dims : List Dimension) (sizes : List ℕ) (c : Coordinate) → AreNear dims → is_inside (bounds_of dims) c ≡ true
    → is_inside (bounds_of (by_pairs in_blocks dims sizes)) (by_pairs (λ b x. b x) (by_pairs block (bounds_of dims).lo.items sizes) c) ≡ true
blocks_inside [] sizes c near e = refl
blocks_inside (d ∷ dims) [] c near e = refl
blocks_inside (d ∷ dims) (size ∷ sizes) [] near e = absurd (false≢true e)
blocks_inside (d ∷ dims) (size ∷ sizes) (x ∷ c) near e =
    let p = side_parts d.lo d.hi x (is_inside (bounds_of dims) c) e in
    let q = block_side d size x near.0 p.0 p.1 in
    side_from d.lo (saturate_signed w64 (block d.lo size d.hi)) (block d.lo size x) _ q.0 q.1 (blocks_inside dims sizes c near.1 p.2)
