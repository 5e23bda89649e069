-- Boxes of parts and slices where they lie in the array.
use Rattle.std.proofs.Common.{◌≡◌, ℕ, suc, ◌+◌, ◌-◌, ◌/◌, ◌^◌, ℤ, pos, negsuc, ◌+ℤ◌, ◌-ℤ◌, ◌≤ℤ◌, Bool, true, false, cond, ◌&&◌, ◌||◌, List, [], ◌∷◌, length, Option, Some, None, min, refl, sym, ap, ◌∙◌, subst, arith}
use Rattle.std.proofs.lemmas.Bool.{eqb-true}
use Rattle.std.proofs.lemmas.Int.{ints, clamps}
use Rattle.std.specs.Cmp.{signed_Decides}
use Rattle.std.specs.Int.{int_max, int_min, saturate_signed, w64}
use Rattle.std.specs.Ordering.{int_eq}
use Rattle.std.specs.Prelude.{◌==◌, int_le, slice_index_or, unsigned_abs}
use Rattle.cell_values.specs.declared.schema.Bounds.{Bounds}
use Rattle.cell_values.specs.declared.schema.Dimension.{Dimension}
use Rattle.cell_values.specs.declared.schema.Schema.{Schema}
use Rattle.cell_values.specs.Schemas.{IsValid}
use Rattle.array_rows.specs.Boxes.{bounds_of, corners, is_between, is_inside, meet}
use Rattle.array_rows.specs.Rows.{Coordinate}
use Rattle.array_geom.specs.Geometry.{ChunkNumber, HasFrame, chunk_of, first_in, frame, has_core}
use Rattle.array_geom.specs.Inner.Ranges.{AreNear}
use Rattle.array_geom.proofs.NearLemmas.{valid_placed}
use Rattle.array_geom.proofs.TestLaws.{and_parts, le_from_test, le_test}
use Rattle.logical_plan.specs.declared.parts.Fixed.{Fixed}
use Rattle.logical_plan.specs.BoxOps.{fixed_places, has_fixed, items_but}
use Rattle.logical_plan.specs.PlanSchema.{subarray_dimensions}
use Rattle.exec_box.specs.Inner.Reached.{chunks_from}
use Rattle.exec_box.specs.Inner.Spread.{fixed_number, raised, spread, spread_by}
use Rattle.exec_box.proofs.PartLaws.{highs, less, lows}
use Rattle.exec_box.proofs.SliceLaws.{is_among}

-- ---- parts

same_test : (a b c d : ℤ) → (a ≤ℤ b → c ≤ℤ d) → (c ≤ℤ d → a ≤ℤ b) → int_le a b ≡ int_le c d
same_test a b c d f g = cases (int_le a b) (int_le c d) refl refl
  where
    cases : (s t : Bool) → int_le a b ≡ s → int_le c d ≡ t → s ≡ t
    cases true true e h = refl
    cases false false e h = refl
    cases true false e h = let t = le_test c d (f (le_from_test a b e)) in absurd cc
    cases false true e h = let t = le_test a b (g (le_from_test c d h)) in absurd cc

-- a number of a valid array is as far below one that 64 bits hold as below the number itself
saturated_low : (z x : ℤ) → negsuc (2 ^ 62) ≤ℤ x → x ≤ℤ pos (2 ^ 62) → int_le (saturate_signed w64 z) x ≡ int_le z x
saturated_low (pos n) x low high = same_test (pos (min n (2 ^ 63 - 1))) x (pos n) x (λ h. omega (arith, ints, clamps)) (λ h. omega (arith, ints, clamps))
saturated_low (negsuc n) x low high = same_test (negsuc (min n (2 ^ 63 - 1))) x (negsuc n) x (λ h. omega (arith, ints, clamps)) (λ h. omega (arith, ints, clamps))

saturated_high : (z x : ℤ) → negsuc (2 ^ 62) ≤ℤ x → x ≤ℤ pos (2 ^ 62) → int_le x (saturate_signed w64 z) ≡ int_le x z
saturated_high (pos n) x low high = same_test x (pos (min n (2 ^ 63 - 1))) x (pos n) (λ h. omega (arith, ints, clamps)) (λ h. omega (arith, ints, clamps))
saturated_high (negsuc n) x low high = same_test x (negsuc (min n (2 ^ 63 - 1))) x (negsuc n) (λ h. omega (arith, ints, clamps)) (λ h. omega (arith, ints, clamps))

raised_low : (f l x : ℤ) → negsuc (2 ^ 62) ≤ℤ x → x ≤ℤ pos (2 ^ 62) → int_le (saturate_signed w64 (f +ℤ l)) x ≡ int_le f (x -ℤ l)
raised_low f l x low high = saturated_low (f +ℤ l) x low high ∙ same_test (f +ℤ l) x f (x -ℤ l) (λ h. omega (arith, ints)) (λ h. omega (arith, ints))

raised_high : (f l x : ℤ) → negsuc (2 ^ 62) ≤ℤ x → x ≤ℤ pos (2 ^ 62) → int_le x (saturate_signed w64 (f +ℤ l)) ≡ int_le (x -ℤ l) f
raised_high f l x low high = saturated_high (f +ℤ l) x low high ∙ same_test x (f +ℤ l) (x -ℤ l) f (λ h. omega (arith, ints)) (λ h. omega (arith, ints))

-- what lies in a stretch of a valid dimension has at most 62 bits
few_bits : (lo hi l h x : ℤ) → negsuc (2 ^ 62 - 2) ≤ℤ lo → hi ≤ℤ pos (2 ^ 62 - 1) → int_max lo l ≤ℤ x → x ≤ℤ int_min hi h → (negsuc (2 ^ 62) ≤ℤ x) × (x ≤ℤ pos (2 ^ 62))
few_bits lo hi l h x low high e f = (omega (arith, ints, clamps), omega (arith, ints, clamps))

-- a box that is moved to 0 holds what the raised one held
raised_holds : (dims : List Dimension) (lo hi flo fhi : List ℤ) (c : Coordinate) → AreNear dims → is_between (lows dims lo) (highs dims hi) c ≡ true
    → is_between (raised flo (lows dims lo)) (raised fhi (lows dims lo)) c ≡ is_between flo fhi (less (lows dims lo) c)
raised_holds [] lo hi flo fhi [] near e = ends flo fhi
  where
    ends : (flo fhi : List ℤ) → is_between (raised flo []) (raised fhi []) [] ≡ is_between flo fhi []
    ends [] [] = refl
    ends [] (g ∷ fhi) = refl
    ends (f ∷ flo) [] = refl
    ends (f ∷ flo) (g ∷ fhi) = refl
raised_holds [] lo hi flo fhi (x ∷ c) near e = absurd cc
raised_holds (d ∷ dims) [] [] flo fhi [] near e = ends flo fhi
  where
    ends : (flo fhi : List ℤ) → is_between (raised flo []) (raised fhi []) [] ≡ is_between flo fhi []
    ends [] [] = refl
    ends [] (g ∷ fhi) = refl
    ends (f ∷ flo) [] = refl
    ends (f ∷ flo) (g ∷ fhi) = refl
raised_holds (d ∷ dims) [] [] flo fhi (x ∷ c) near e = absurd cc
raised_holds (d ∷ dims) [] (h ∷ hi) flo fhi c near e = absurd cc
raised_holds (d ∷ dims) (l ∷ lo) [] flo fhi c near e = absurd cc
raised_holds (d ∷ dims) (l ∷ lo) (h ∷ hi) flo fhi [] near e = absurd cc
raised_holds (d ∷ dims) (l ∷ lo) (h ∷ hi) [] [] (x ∷ c) near e = refl
raised_holds (d ∷ dims) (l ∷ lo) (h ∷ hi) [] (g ∷ fhi) (x ∷ c) near e = refl
raised_holds (d ∷ dims) (l ∷ lo) (h ∷ hi) (f ∷ flo) [] (x ∷ c) near e = refl
raised_holds (d ∷ dims) (l ∷ lo) (h ∷ hi) (f ∷ flo) (g ∷ fhi) (x ∷ c) near e =
    let t = and_parts (int_le (int_max d.lo l) x && int_le x (int_min d.hi h)) (is_between (lows dims lo) (highs dims hi) c) e in
    let u = and_parts (int_le (int_max d.lo l) x) (int_le x (int_min d.hi h)) t.0 in
    let b = few_bits d.lo d.hi l h x near.0.low near.0.high (le_from_test (int_max d.lo l) x u.0) (le_from_test x (int_min d.hi h) u.1) in
    let low = raised_low f (int_max d.lo l) x b.0 b.1 in
    let high = raised_high g (int_max d.lo l) x b.0 b.1 in
    let rest = raised_holds dims lo hi flo fhi c near.1 t.1 in
    λ i. low i && high i && rest i

pub raised_box_holds : (schema : Schema) (area target : Bounds) (c : Coordinate) → IsValid schema → is_inside (meet (bounds_of schema.dimensions) area) c ≡ true
    → is_inside (corners (raised target.lo.items (meet (bounds_of schema.dimensions) area).lo.items) (raised target.hi.items (meet (bounds_of schema.dimensions) area).lo.items)) c
    ≡ is_inside target (less (meet (bounds_of schema.dimensions) area).lo.items c)
raised_box_holds schema area target c valid e = raised_holds schema.dimensions area.lo.items area.hi.items target.lo.items target.hi.items c (valid_placed schema valid).near e

less_zero : (x : ℤ) → (x -ℤ pos 0) ≡ x
less_zero x = omega (arith, ints)

-- the number of the chunk into which a coordinate comes
part_number : (dims : List Dimension) (lo hi : List ℤ) (c : Coordinate) → is_between (lows dims lo) (highs dims hi) c ≡ true
    → chunk_of (subarray_dimensions dims lo hi) (less (lows dims lo) c) ≡ chunks_from dims (lows dims lo) c
part_number [] lo hi c e = refl
part_number (d ∷ dims) [] hi c e = refl
part_number (d ∷ dims) (l ∷ lo) [] c e = absurd cc
part_number (d ∷ dims) (l ∷ lo) (h ∷ hi) [] e = absurd cc
part_number (d ∷ dims) (l ∷ lo) (h ∷ hi) (x ∷ c) e =
    let t = and_parts (int_le (int_max d.lo l) x && int_le x (int_min d.hi h)) (is_between (lows dims lo) (highs dims hi) c) e in
    let first : unsigned_abs ((x -ℤ int_max d.lo l) -ℤ pos 0) / d.chunk ≡ unsigned_abs (x -ℤ int_max d.lo l) / d.chunk = ap (λ (z : ℤ). unsigned_abs z / d.chunk) (less_zero (x -ℤ int_max d.lo l)) in
    let rest = part_number dims lo hi c t.1 in
    λ i. first i ∷ rest i

pub part_comes : (dims : List Dimension) (area : Bounds) (c : Coordinate) → is_inside (meet (bounds_of dims) area) c ≡ true
    → chunk_of (subarray_dimensions dims area.lo.items area.hi.items) (less (meet (bounds_of dims) area).lo.items c) ≡ chunks_from dims (meet (bounds_of dims) area).lo.items c
part_comes dims area c e = part_number dims area.lo.items area.hi.items c e

-- ---- slices

fixed_among : (fixed : List Fixed) (m : ℕ) (v : ℤ) → fixed_number fixed m ≡ Some v → is_among (fixed_places fixed) m ≡ true
fixed_among [] m v e = absurd cc
fixed_among (f ∷ fixed) m v e = cases (f.dimension == m) e (fixed_among fixed m v)
  where
    cases : (t : Bool) → cond t (Some f.at) (fixed_number fixed m) ≡ Some v → (fixed_number fixed m ≡ Some v → is_among (fixed_places fixed) m ≡ true) → (t || is_among (fixed_places fixed) m) ≡ true
    cases true e more = refl
    cases false e more = more e

not_fixed : (fixed : List Fixed) (m : ℕ) → fixed_number fixed m ≡ None → is_among (fixed_places fixed) m ≡ false
not_fixed [] m e = refl
not_fixed (f ∷ fixed) m e = cases (f.dimension == m) e (not_fixed fixed m)
  where
    cases : (t : Bool) → cond t (Some f.at) (fixed_number fixed m) ≡ None → (fixed_number fixed m ≡ None → is_among (fixed_places fixed) m ≡ false) → (t || is_among (fixed_places fixed) m) ≡ false
    cases true e more = absurd cc
    cases false e more = more e

some_same : (a b : ℤ) → Some a ≡ Some b → a ≡ b
some_same a b e = cc

-- a coordinate with the fixed numbers has each of them
fixed_there : (fixed : List Fixed) (m : ℕ) (c : Coordinate) (v : ℤ) → has_fixed fixed c ≡ true → fixed_number fixed m ≡ Some v → slice_index_or c m (pos 0) ≡ v
fixed_there [] m c v h e = absurd cc
fixed_there (f ∷ fixed) m c v h e = cases (f.dimension == m) refl e (fixed_there fixed m c v parts.1)
  where
    parts : (int_eq (slice_index_or c f.dimension (pos 0)) f.at ≡ true) × (has_fixed fixed c ≡ true)
    parts = and_parts (int_eq (slice_index_or c f.dimension (pos 0)) f.at) (has_fixed fixed c) h

    cases : (t : Bool) → (f.dimension == m) ≡ t → cond t (Some f.at) (fixed_number fixed m) ≡ Some v → (fixed_number fixed m ≡ Some v → slice_index_or c m (pos 0) ≡ v) → slice_index_or c m (pos 0) ≡ v
    cases true t e more =
        ap (λ (k : ℕ). slice_index_or c k (pos 0)) (sym (eqb-true f.dimension m t)) ∙ (signed_Decides (slice_index_or c f.dimension (pos 0)) f.at).0 parts.0 ∙ some_same f.at v e
    cases false t e more = more e

-- the coordinate has the fixed numbers, where its first number has the place n
abbrev HasFrom : List Fixed → ℕ → Coordinate → Type 0
HasFrom fixed n c = (k m : ℕ) (v : ℤ) → m ≡ n + k → fixed_number fixed m ≡ Some v → slice_index_or c k (pos 0) ≡ v

itself : (v x : ℤ) (rest : Bool) → x ≡ v → (int_le v x && int_le x v && rest) ≡ rest
itself v x rest e =
    let low = le_test v x (subst (λ (z : ℤ). v ≤ℤ z) (sym e) (at_most v)) in
    let high = le_test x v (subst (λ (z : ℤ). z ≤ℤ v) (sym e) (at_most v)) in
    λ i. low i && high i && rest
  where
    at_most : (z : ℤ) → z ≤ℤ z
    at_most z = omega (arith, ints)

-- a slice's box holds a coordinate without its fixed numbers where the spread one holds it with them
spread_holds : (fixed : List Fixed) (n : ℕ) (dims : List Dimension) (flo fhi : List ℤ) (c : Coordinate) → length c ≡ length dims → length flo ≡ length (items_but (fixed_places fixed) n dims) → length fhi ≡ length (items_but (fixed_places fixed) n dims) → HasFrom fixed n c
    → is_between (spread fixed n dims flo) (spread fixed n dims fhi) c ≡ is_between flo fhi (items_but (fixed_places fixed) n c)
spread_holds fixed n [] [] [] [] l e f has = refl
spread_holds fixed n [] [] (g ∷ fhi) [] l e f has = absurd (omega (arith, f))
spread_holds fixed n [] (f ∷ flo) fhi [] l e g has = absurd (omega (arith, e))
spread_holds fixed n [] flo fhi (x ∷ c) l e f has = absurd (omega (arith, l))
spread_holds fixed n (d ∷ dims) flo fhi [] l e f has = absurd (omega (arith, l))
spread_holds fixed n (d ∷ dims) flo fhi (x ∷ c) l e f has =
    cases (fixed_number fixed n) refl flo fhi e f (λ lo hi p q. spread_holds fixed (n + 1) dims lo hi c (omega (arith, l)) p q (λ k m v s t. has (suc k) m v (omega (arith, s)) t))
  where
    places : List ℕ
    places = fixed_places fixed

    rest : List ℤ
    rest = items_but places (n + 1) c

    cases : (o : Option ℤ) → fixed_number fixed n ≡ o → (lo hi : List ℤ) → length lo ≡ length (items_but places n (d ∷ dims)) → length hi ≡ length (items_but places n (d ∷ dims))
        → ((ls hs : List ℤ) → length ls ≡ length (items_but places (n + 1) dims) → length hs ≡ length (items_but places (n + 1) dims) → is_between (spread fixed (n + 1) dims ls) (spread fixed (n + 1) dims hs) c ≡ is_between ls hs rest)
        → is_between (spread_by o lo (spread fixed (n + 1) dims)) (spread_by o hi (spread fixed (n + 1) dims)) (x ∷ c) ≡ is_between lo hi (items_but places n (x ∷ c))
    cases (Some v) o lo hi p q more =
        let among = fixed_among fixed n v o in
        let zeroth : n ≡ n + 0 = omega arith in
        let as_many : length (items_but places n (d ∷ dims)) ≡ length (items_but places (n + 1) dims) = ap (λ (t : Bool). length (cond t (items_but places (n + 1) dims) (d ∷ items_but places (n + 1) dims))) among in
        itself v x (is_between (spread fixed (n + 1) dims lo) (spread fixed (n + 1) dims hi) c) (has 0 n v zeroth o)
        ∙ more lo hi (p ∙ as_many) (q ∙ as_many)
        ∙ ap (λ (t : Bool). is_between lo hi (cond t rest (x ∷ rest))) (sym among)
    cases None o lo hi p q more =
        let among = not_fixed fixed n o in
        let as_many : length (items_but places n (d ∷ dims)) ≡ suc (length (items_but places (n + 1) dims)) = ap (λ (t : Bool). length (cond t (items_but places (n + 1) dims) (d ∷ items_but places (n + 1) dims))) among in
        go lo hi (p ∙ as_many) (q ∙ as_many) ∙ ap (λ (t : Bool). is_between lo hi (cond t rest (x ∷ rest))) (sym among)
      where
        go : (lo hi : List ℤ) → length lo ≡ suc (length (items_but places (n + 1) dims)) → length hi ≡ suc (length (items_but places (n + 1) dims))
            → is_between (spread_by None lo (spread fixed (n + 1) dims)) (spread_by None hi (spread fixed (n + 1) dims)) (x ∷ c) ≡ is_between lo hi (x ∷ rest)
        go [] hi p q = absurd (omega (arith, p))
        go (a ∷ lo) [] p q = absurd (omega (arith, q))
        go (a ∷ lo) (b ∷ hi) p q = ap (λ (t : Bool). int_le a x && int_le x b && t) (more lo hi (omega (arith, p)) (omega (arith, q)))

pub spread_box_holds : (fixed : List Fixed) (dims : List Dimension) (target : Bounds) (c : Coordinate) → length c ≡ length dims → length target.lo.items ≡ length (items_but (fixed_places fixed) 0 dims) → length target.hi.items ≡ length (items_but (fixed_places fixed) 0 dims)
    → has_fixed fixed c ≡ true → is_inside (corners (spread fixed 0 dims target.lo.items) (spread fixed 0 dims target.hi.items)) c ≡ is_inside target (items_but (fixed_places fixed) 0 c)
spread_box_holds fixed dims target c l e f has = spread_holds fixed 0 dims target.lo.items target.hi.items c l e f from_start
  where
    from_start : HasFrom fixed 0 c
    from_start k m v s t =
        let same : m ≡ k = omega (arith, s) in
        fixed_there fixed k c v has (ap (fixed_number fixed) (sym same) ∙ t)

-- the number of the chunk into which a coordinate comes without its fixed numbers
pub slice_comes : (places : List ℕ) (n : ℕ) (dims : List Dimension) (c : Coordinate) → length c ≡ length dims → chunk_of (items_but places n dims) (items_but places n c) ≡ items_but places n (chunk_of dims c)
slice_comes places n [] [] l = refl
slice_comes places n [] (x ∷ c) l = absurd (omega (arith, l))
slice_comes places n (d ∷ dims) [] l = absurd (omega (arith, l))
slice_comes places n (d ∷ dims) (x ∷ c) l = cases (is_among places n) (slice_comes places (n + 1) dims c (omega (arith, l)))
  where
    number : ℕ
    number = unsigned_abs (x -ℤ d.lo) / d.chunk

    cases : (t : Bool) → chunk_of (items_but places (n + 1) dims) (items_but places (n + 1) c) ≡ items_but places (n + 1) (chunk_of dims c)
        → chunk_of (cond t (items_but places (n + 1) dims) (d ∷ items_but places (n + 1) dims)) (cond t (items_but places (n + 1) c) (x ∷ items_but places (n + 1) c))
        ≡ cond t (items_but places (n + 1) (chunk_of dims c)) (number ∷ items_but places (n + 1) (chunk_of dims c))
    cases true r = r
    cases false r = ap (λ (ks : ChunkNumber). number ∷ ks) r

-- a frame has a number for each dimension
lows_long : (dims : List Dimension) (margins : List ℕ) (k : ChunkNumber) → has_core dims k ≡ true → length margins ≡ length dims → length (frame dims margins k).lo.items ≡ length dims
lows_long [] margins [] e l = refl
lows_long [] margins (n ∷ k) e l = absurd cc
lows_long (d ∷ dims) margins [] e l = absurd cc
lows_long (d ∷ dims) [] (n ∷ k) e l = absurd (omega (arith, l))
lows_long (d ∷ dims) (m ∷ margins) (n ∷ k) e l = ap suc (lows_long dims margins k (and_parts (int_le (first_in d n) d.hi) (has_core dims k) e).1 (omega (arith, l)))

highs_long : (dims : List Dimension) (margins : List ℕ) (k : ChunkNumber) → has_core dims k ≡ true → length margins ≡ length dims → length (frame dims margins k).hi.items ≡ length dims
highs_long [] margins [] e l = refl
highs_long [] margins (n ∷ k) e l = absurd cc
highs_long (d ∷ dims) margins [] e l = absurd cc
highs_long (d ∷ dims) [] (n ∷ k) e l = absurd (omega (arith, l))
highs_long (d ∷ dims) (m ∷ margins) (n ∷ k) e l = ap suc (highs_long dims margins k (and_parts (int_le (first_in d n) d.hi) (has_core dims k) e).1 (omega (arith, l)))

pub frame_lows : (schema : Schema) (margins : List ℕ) (k : ChunkNumber) (box : Bounds) → HasFrame schema margins k → box ≡ frame schema.dimensions margins k → length box.lo.items ≡ length schema.dimensions
frame_lows schema margins k box framed e = ap (λ (b : Bounds). length b.lo.items) e ∙ lows_long schema.dimensions margins k framed.core framed.each

pub frame_highs : (schema : Schema) (margins : List ℕ) (k : ChunkNumber) (box : Bounds) → HasFrame schema margins k → box ≡ frame schema.dimensions margins k → length box.hi.items ≡ length schema.dimensions
frame_highs schema margins k box framed e = ap (λ (b : Bounds). length b.hi.items) e ∙ highs_long schema.dimensions margins k framed.core framed.each
