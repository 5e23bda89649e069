-- What blocks need of their source.
use Rattle.std.proofs.Common.{◌≡◌, ℕ, suc, ◌+◌, ◌-◌, ◌*◌, ◌/◌, ◌<◌, ◌≤◌, ◌^◌, ℤ, pos, negsuc, ◌+ℤ◌, ◌-ℤ◌, ◌≤ℤ◌, ◌<ℤ◌, unsigned_abs, Bool, true, false, List, [], ◌∷◌, length, cond, refl, sym, ap, ◌∙◌, suc-mul, le-div_iff_mul-le, div-lt_iff_lt-mul, arith}
use Rattle.std.specs.Prelude.{nat_le, IfOk, IsTrue}
use Rattle.std.specs.Int.{int_max, int_min}
use Rattle.std.specs.List.{list_all}
use Rattle.std.proofs.lemmas.Bool.{false≢true, and_parts, leb-true}
use Rattle.std.proofs.lemmas.Int.{ints, clamps}
use Rattle.std.proofs.Math.Nat.{div-le_self}
use Rattle.cell_values.specs.declared.schema.Dimension.{Dimension}
use Rattle.cell_values.specs.declared.schema.Schema.{Schema}
use Rattle.cell_values.specs.Schemas.{IsValid}
use Rattle.array_rows.specs.Arrays.{Meant}
use Rattle.array_rows.specs.Boxes.{by_pairs, is_inside, within, bounds_of}
use Rattle.array_rows.specs.Rows.{Coordinate}
use Rattle.array_geom.specs.Inner.Ranges.{IsNear, AreNear}
use Rattle.array_geom.proofs.NearLemmas.{near_slice}
use Rattle.array_geom.proofs.TestLaws.{lt_from_test}
use Rattle.logical_plan.specs.declared.parts.Aggregate.{Aggregate}
use Rattle.logical_plan.specs.Faults.{if_whole}
use Rattle.logical_plan.specs.Groups.{block, regrid_rows}
use Rattle.plan_needs.specs.declared.stretch.Stretch.{Stretch}
use Rattle.plan_needs.specs.Sides.{Sides, box_of, of_regrid}
use Rattle.plan_needs.specs.Stretches.{stretch, all_of, is_empty, shared, block_first, block_last, blocks}
use Rattle.plan_needs.proofs.AlikeGroups.{grouped_depends}
use Rattle.plan_needs.proofs.AlikeParts.{alike_by, sat_low, sat_high}
use Rattle.plan_needs.proofs.EmptyBoxes.{needed_inside}
use Rattle.plan_needs.proofs.Inside.{AreInside, side_parts, side_from}

-- ---- whole blocks

mul_below : (k u size : ℕ) → 1 ≤ size → k ≤ u / size → k * size ≤ u
mul_below k u size some l = let some' : 0 < size = omega arith in (le-div_iff_mul-le {k = size} {x = k} {y = u} some').0 l

below_mul : (k u size : ℕ) → 1 ≤ size → u / size ≤ k → u ≤ k * size + (size - 1)
below_mul k u size some l =
    let some' : 0 < size = omega arith in
    let less : u / size < suc k = omega arith in
    let more : u < suc k * size = (div-lt_iff_lt-mul {k = size} {x = u} {y = suc k} some').0 less in
    let parts : suc k * size ≡ k * size + size = suc-mul k size in
    omega arith

-- the block of a place has no higher number than the place
upto_place : (low x : ℤ) (size : ℕ) → low ≤ℤ x → block low size x ≤ℤ x
upto_place low x size a = let few : unsigned_abs (x -ℤ low) / size ≤ unsigned_abs (x -ℤ low) = div-le_self (unsigned_abs (x -ℤ low)) size in omega (arith, ints)

-- the first place of a block that is not above that of x is not above x
first_below : (low x y : ℤ) (size : ℕ) → 1 ≤ size → low ≤ℤ x → negsuc (2 ^ 63 - 1) ≤ℤ x → low ≤ℤ y → y ≤ℤ block low size x → block_first low size y ≤ℤ x
first_below low x y size some a f above l =
    let few : unsigned_abs (y -ℤ low) ≤ unsigned_abs (x -ℤ low) / size = omega (arith, ints) in
    let upto : unsigned_abs (y -ℤ low) * size ≤ unsigned_abs (x -ℤ low) = mul_below (unsigned_abs (y -ℤ low)) (unsigned_abs (x -ℤ low)) size some few in
    let sum : (low +ℤ pos (unsigned_abs (y -ℤ low) * size)) ≤ℤ x = omega (arith, ints) in
    sat_low (low +ℤ pos (unsigned_abs (y -ℤ low) * size)) x sum f

last_above : (low x y : ℤ) (size : ℕ) → 1 ≤ size → low ≤ℤ x → x ≤ℤ pos (2 ^ 63 - 1) → block low size x ≤ℤ y → x ≤ℤ block_last low size y
last_above low x y size some a f l =
    let many : unsigned_abs (x -ℤ low) / size ≤ unsigned_abs (y -ℤ low) = omega (arith, ints) in
    let upto : unsigned_abs (x -ℤ low) ≤ unsigned_abs (y -ℤ low) * size + (size - 1) = below_mul (unsigned_abs (y -ℤ low)) (unsigned_abs (x -ℤ low)) size some many in
    let sum : x ≤ℤ (low +ℤ pos (unsigned_abs (y -ℤ low) * size + (size - 1))) = omega (arith, ints) in
    sat_high (low +ℤ pos (unsigned_abs (y -ℤ low) * size + (size - 1))) x sum f

pub both_below : (l m z : ℤ) → l ≤ℤ z → m ≤ℤ z → int_max l m ≤ℤ z
both_below l m z p q = omega (arith, ints, clamps)

pub both_above : (h k z : ℤ) → z ≤ℤ h → z ≤ℤ k → z ≤ℤ int_min h k
both_above h k z p q = omega (arith, ints, clamps)

apart : {A : Type 0} (l h z : ℤ) → l ≤ℤ z → z ≤ℤ h → h <ℤ l → A
apart l h z p q r = absurd (omega (arith, ints))

block_held : (d : Dimension) (size : ℕ) (s : Stretch) (x : ℤ) → 1 ≤ size → IsNear d → d.lo ≤ℤ x → x ≤ℤ d.hi → s.first ≤ℤ block d.lo size x → block d.lo size x ≤ℤ s.last
    → ((blocks d size s).first ≤ℤ x) × (x ≤ℤ (blocks d size s).last)
block_held d size s x some near a b f g = by_test (is_empty (shared (all_of d) s)) refl
  where
    low : negsuc (2 ^ 63 - 1) ≤ℤ x
    low = let l = near.low in omega (arith, ints)

    high : x ≤ℤ pos (2 ^ 63 - 1)
    high = let h = near.high in omega (arith, ints)

    begins : int_max d.lo s.first ≤ℤ block d.lo size x
    begins = let above : d.lo ≤ℤ block d.lo size x = omega (arith, ints) in both_below d.lo s.first (block d.lo size x) above f

    ends : block d.lo size x ≤ℤ int_min d.hi s.last
    ends =
        let upto = upto_place d.lo x size a in
        let below : block d.lo size x ≤ℤ d.hi = omega (arith, ints) in
        both_above d.hi s.last (block d.lo size x) below g

    first : block_first d.lo size (int_max d.lo s.first) ≤ℤ x
    first = let above : d.lo ≤ℤ int_max d.lo s.first = omega (arith, ints, clamps) in first_below d.lo x (int_max d.lo s.first) size some a low above begins

    last : x ≤ℤ block_last d.lo size (int_min d.hi s.last)
    last = last_above d.lo x (int_min d.hi s.last) size some a high ends

    by_test : (t : Bool) → is_empty (shared (all_of d) s) ≡ t
        → ((cond t (shared (all_of d) s) (shared (all_of d) (stretch (block_first d.lo size (int_max d.lo s.first)) (block_last d.lo size (int_min d.hi s.last))))).first ≤ℤ x)
        × (x ≤ℤ (cond t (shared (all_of d) s) (shared (all_of d) (stretch (block_first d.lo size (int_max d.lo s.first)) (block_last d.lo size (int_min d.hi s.last))))).last)
    by_test true e = apart (int_max d.lo s.first) (int_min d.hi s.last) (block d.lo size x) begins ends (lt_from_test (int_min d.hi s.last) (int_max d.lo s.first) e)
    by_test false e =
        (both_below d.lo (block_first d.lo size (int_max d.lo s.first)) x a first, both_above d.hi (block_last d.lo size (int_min d.hi s.last)) x b last)

blocks_hold : (dims : List Dimension) (sizes : List ℕ) (sides : Sides) (c : Coordinate) → length sizes ≡ length dims → IsTrue (list_all (λ size. nat_le 1 size) sizes) → AreNear dims → is_inside (bounds_of dims) c ≡ true
    → is_inside (box_of sides) (by_pairs (λ b x. b x) (by_pairs block (bounds_of dims).lo.items sizes) c) ≡ true → is_inside (box_of (by_pairs (λ f s. f s) (by_pairs blocks dims sizes) sides)) c ≡ true
blocks_hold [] sizes sides [] len some near e f = refl
blocks_hold [] sizes sides (x ∷ c) len some near e f = absurd (false≢true e)
blocks_hold (d ∷ dims) [] sides c len some near e f = absurd (omega arith)
blocks_hold (d ∷ dims) (size ∷ sizes) sides [] len some near e f = absurd (false≢true e)
blocks_hold (d ∷ dims) (size ∷ sizes) [] (x ∷ c) len some near e f = absurd (false≢true f)
blocks_hold (d ∷ dims) (size ∷ sizes) (s ∷ sides) (x ∷ c) len some near e f =
    let one = and_parts (nat_le 1 size) (list_all (λ n. nat_le 1 n) sizes) some in
    let p = side_parts d.lo d.hi x (is_inside (bounds_of dims) c) e in
    let q = side_parts s.first s.last (block d.lo size x) (is_inside (box_of sides) (by_pairs (λ b y. b y) (by_pairs block (bounds_of dims).lo.items sizes) c)) f in
    let r = block_held d size s x (leb-true 1 size one.0) near.0 p.0 p.1 q.0 q.1 in
    side_from (blocks d size s).first (blocks d size s).last x _ r.0 r.1 (blocks_hold dims sizes sides c (omega arith) one.1 near.1 p.2 q.2)

pub alike_blocks : (schema : Schema) (sizes : List ℕ) (gs : List Aggregate) (sides : Sides) → IsValid schema → length sizes ≡ length schema.dimensions → IsTrue (list_all (λ size. nat_le 1 size) sizes) → (m n : Meant) → m.schema ≡ schema → n.schema ≡ schema
    → IfOk m.rows (AreInside schema.dimensions) → IfOk n.rows (AreInside schema.dimensions)
    → if_whole (within (box_of (of_regrid schema.dimensions sizes sides))) m.rows ≡ if_whole (within (box_of (of_regrid schema.dimensions sizes sides))) n.rows
    → if_whole (within (box_of sides)) (if_whole (regrid_rows (bounds_of m.schema.dimensions).lo.items sizes gs) m.rows) ≡ if_whole (within (box_of sides)) (if_whole (regrid_rows (bounds_of n.schema.dimensions).lo.items sizes gs) n.rows)
alike_blocks schema sizes gs sides valid len some m n e f i j h =
    let dims : List Dimension = schema.dimensions in
    ap (λ (s : Schema). if_whole (within (box_of sides)) (if_whole (regrid_rows (bounds_of s.dimensions).lo.items sizes gs) m.rows)) e
    ∙ alike_by (AreInside dims) (box_of sides) (box_of (of_regrid dims sizes sides)) (regrid_rows (bounds_of dims).lo.items sizes gs)
    (grouped_depends dims (λ c. by_pairs (λ b x. b x) (by_pairs block (bounds_of dims).lo.items sizes) c) gs (box_of sides) (box_of (of_regrid dims sizes sides))
    (λ c p q. needed_inside sides (by_pairs (λ (g : Stretch → Stretch) (s : Stretch). g s) (by_pairs blocks dims sizes) sides) (by_pairs (λ (b : ℤ → ℤ) (x : ℤ). b x) (by_pairs block (bounds_of dims).lo.items sizes) c) c q (blocks_hold dims sizes sides c len some (near_slice schema dims refl valid) p q))) m.rows n.rows i j h
    ∙ ap (λ (s : Schema). if_whole (within (box_of sides)) (if_whole (regrid_rows (bounds_of s.dimensions).lo.items sizes gs) n.rows)) (sym f)
