-- Numbers that are picked of two lists, and the chunks of a box no longer than a chunk.
use Rattle.std.proofs.Common.{◌≡◌, ℕ, zero, suc, ◌+◌, ◌-◌, ◌*◌, ◌/◌, ◌<◌, ◌≤◌, ℤ, pos, ◌+ℤ◌, ◌-ℤ◌, ◌≤ℤ◌, Bool, true, false, ◌&&◌, ◌||◌, ◌⊎◌, inl, inr, List, [], ◌∷◌, ◌++◌, length, take, drop, refl, sym, ap, ◌∙◌, subst, append_assoc, arith}
use Rattle.std.proofs.lemmas.Bool.{eqb-true, eq-eqb}
use Rattle.std.proofs.lemmas.Cmp.{tied_itself}
use Rattle.std.proofs.lemmas.Int.{ints, clamps}
use Rattle.std.proofs.lemmas.List.{append-nil, take_rest}
use Rattle.std.proofs.Math.Nat.{div-mul-le_self, lt-div-mul-add}
use Rattle.std.specs.Int.{int_max, int_min}
use Rattle.std.specs.Ordering.{is_eq}
use Rattle.std.specs.Prelude.{◌==◌, int_le, slice_index_or, unsigned_abs}
use Rattle.arrayvec.specs.ArrayVec.{ArrayVec}
use Rattle.cell_values.specs.declared.schema.Bounds.{Bounds}
use Rattle.cell_values.specs.declared.schema.Dimension.{Dimension}
use Rattle.cell_values.specs.declared.schema.Schema.{Schema}
use Rattle.cell_values.specs.Schemas.{IsValid}
use Rattle.array_rows.specs.Boxes.{by_pairs, is_between, is_inside, meet}
use Rattle.array_rows.specs.Rows.{Coordinate}
use Rattle.array_geom.specs.Areas.{are_ordered}
use Rattle.array_geom.specs.Geometry.{ChunkNumber, core, first_in, has_core, last_in}
use Rattle.array_geom.specs.Inner.Ranges.{AreNear, IsNear}
use Rattle.array_geom.specs.Link.{is_listed, number_order}
use Rattle.array_geom.proofs.LawProofs.{lowest_is_inside}
use Rattle.array_geom.proofs.NearLemmas.{valid_placed}
use Rattle.array_geom.proofs.PlaceLaws.{quotient_of}
use Rattle.array_geom.proofs.TestLaws.{and_parts, and_both, le_from_test}
use Rattle.chunk_cells.specs.Inner.Numbers.{numbers_in}
use Rattle.chunk_cells.proofs.NumberLaws.{all_append, listed_end, number_order_total}
use Rattle.area_cells.proofs.ApartLaws.{LieApart, apart_where}
use Rattle.exec_box.specs.Inner.Reached.{AddsPicks, AddsReached, HaveCores, chunks_from, is_pick}

or_left : (p q : Bool) → p ≡ true → (p || q) ≡ true
or_left true q e = refl
or_left false q e = absurd cc

or_right : (p q : Bool) → q ≡ true → (p || q) ≡ true
or_right true q e = refl
or_right false q e = e

-- ---- numbers put at the end

listed_still : (k : ChunkNumber) (n : ArrayVec ℕ) (old new : List (ArrayVec ℕ)) → new ≡ old ++ n ∷ [] → is_listed k (numbers_in old) ≡ true → is_listed k (numbers_in new) ≡ true
listed_still k n old new e t =
    ap (λ (xs : List (ArrayVec ℕ)). is_listed k (numbers_in xs)) e ∙ listed_end k n old ∙ or_right (is_eq (number_order n.items k)) (is_listed k (numbers_in old)) t

listed_itself : (n : ArrayVec ℕ) (old new : List (ArrayVec ℕ)) → new ≡ old ++ n ∷ [] → is_listed n.items (numbers_in new) ≡ true
listed_itself n old new e =
    ap (λ (xs : List (ArrayVec ℕ)). is_listed n.items (numbers_in xs)) e ∙ listed_end n.items n old
    ∙ or_left (is_eq (number_order n.items n.items)) (is_listed n.items (numbers_in old)) (ap is_eq (tied_itself number_order_total n.items))

pub core_added : (dims : List Dimension) (number pushed : ArrayVec ℕ) (old new : List (ArrayVec ℕ)) → has_core dims number.items ≡ true → pushed ≡ number → new ≡ old ++ pushed ∷ [] → AddsPicks dims number.items [] [] old new
core_added dims number pushed old new has same e = record {
  kept = λ k t. listed_still k number old new f t;
  picked = picked;
  cores = λ all. subst (HaveCores dims) (sym f) (all_append (λ k. has_core dims k ≡ true) old (number ∷ []) all (has, tt));
}
  where
    f : new ≡ old ++ number ∷ []
    f = e ∙ ap (λ (n : ArrayVec ℕ). old ++ n ∷ []) same

    picked : (ks : ChunkNumber) → is_pick [] [] ks ≡ true → has_core dims (number.items ++ ks) ≡ true → is_listed (number.items ++ ks) (numbers_in new) ≡ true
    picked [] p t = subst (λ (k : ChunkNumber). is_listed k (numbers_in new) ≡ true) (sym (append-nil number.items)) (listed_itself number old new f)
    picked (k ∷ ks) p t = absurd cc

pub none_added : (dims : List Dimension) (front : ChunkNumber) (old : List (ArrayVec ℕ)) → has_core dims front ≡ false → AddsPicks dims front [] [] old old
none_added dims front old has = record { kept = λ k t. t; picked = picked; cores = λ all. all }
  where
    picked : (ks : ChunkNumber) → is_pick [] [] ks ≡ true → has_core dims (front ++ ks) ≡ true → is_listed (front ++ ks) (numbers_in old) ≡ true
    picked [] p t = let no = ap (has_core dims) (append-nil front) in absurd cc
    picked (k ∷ ks) p t = absurd cc

-- ---- picks of two lists

-- nothing is left to be picked of the first list
pub picks_end : (dims : List Dimension) (front low high : ChunkNumber) (old new : List (ArrayVec ℕ)) → length low < 1 → AddsPicks dims front [] [] old new → AddsPicks dims front low high old new
picks_end dims front [] high old new l adds = record { kept = adds.kept; picked = picked; cores = adds.cores }
  where
    picked : (ks : ChunkNumber) → is_pick [] high ks ≡ true → has_core dims (front ++ ks) ≡ true → is_listed (front ++ ks) (numbers_in new) ≡ true
    picked ks p t = go high ks p t
      where
        go : (hs ks : ChunkNumber) → is_pick [] hs ks ≡ true → has_core dims (front ++ ks) ≡ true → is_listed (front ++ ks) (numbers_in new) ≡ true
        go [] ks p t = adds.picked ks p t
        go (h ∷ hs) [] p t = absurd cc
        go (h ∷ hs) (k ∷ ks) p t = absurd cc
picks_end dims front (l ∷ low) high old new e adds = absurd (omega (arith, e))

-- nothing can be picked, where the second list is shorter
pub picks_none : (dims : List Dimension) (front low high : ChunkNumber) (old : List (ArrayVec ℕ)) → 1 ≤ length low → length high < 1 → AddsPicks dims front low high old old
picks_none dims front [] high old l h = absurd (omega (arith, l))
picks_none dims front (x ∷ low) (y ∷ high) old l h = absurd (omega (arith, h))
picks_none dims front (x ∷ low) [] old l h = record { kept = λ k t. t; picked = picked; cores = λ all. all }
  where
    picked : (ks : ChunkNumber) → is_pick (x ∷ low) [] ks ≡ true → has_core dims (front ++ ks) ≡ true → is_listed (front ++ ks) (numbers_in old) ≡ true
    picked [] p t = absurd cc
    picked (k ∷ ks) p t = absurd cc

either : (a b : Bool) (P : Type 0) → (a || b) ≡ true → (a ≡ true → P) → (b ≡ true → P) → P
either true b P e f g = f refl
either false b P e f g = g e

picks_cons : (dims : List Dimension) (front : ChunkNumber) (l : ℕ) (low : ChunkNumber) (h : ℕ) (high : ChunkNumber) (old mid new : List (ArrayVec ℕ)) → AddsPicks dims (front ++ l ∷ []) low high old mid → AddsPicks dims (front ++ h ∷ []) low high mid new
    → AddsPicks dims front (l ∷ low) (h ∷ high) old new
picks_cons dims front l low h high old mid new a b = record { kept = λ k t. b.kept k (a.kept k t); picked = picked; cores = λ all. b.cores (a.cores all) }
  where
    through : (k j : ℕ) (ks : ChunkNumber) → (k == j) ≡ true → front ++ k ∷ ks ≡ (front ++ j ∷ []) ++ ks
    through k j ks e = ap (λ (z : ℕ). front ++ z ∷ ks) (eqb-true k j e) ∙ sym (append_assoc front (j ∷ []) ks)

    picked : (ks : ChunkNumber) → is_pick (l ∷ low) (h ∷ high) ks ≡ true → has_core dims (front ++ ks) ≡ true → is_listed (front ++ ks) (numbers_in new) ≡ true
    picked [] p t = absurd cc
    picked (k ∷ ks) p t =
        let parts = and_parts (k == l || k == h) (is_pick low high ks) p in
        either (k == l) (k == h) (is_listed (front ++ k ∷ ks) (numbers_in new) ≡ true) parts.0
        (λ e. subst (λ (z : ChunkNumber). is_listed z (numbers_in new) ≡ true) (sym (through k l ks e))
        (b.kept ((front ++ l ∷ []) ++ ks) (a.picked ks parts.1 (ap (has_core dims) (sym (through k l ks e)) ∙ t))))
        (λ e. subst (λ (z : ChunkNumber). is_listed z (numbers_in new) ≡ true) (sym (through k h ks e)) (b.picked ks parts.1 (ap (has_core dims) (sym (through k h ks e)) ∙ t)))

again : (dims : List Dimension) (front low high : ChunkNumber) (old new : List (ArrayVec ℕ)) → AddsPicks dims front low high old new → AddsPicks dims front low high new new
again dims front low high old new a = record { kept = λ k t. t; picked = a.picked; cores = λ all. all }

-- the picks of both lists, whose first numbers stand apart from the others
pub picks_both : (dims : List Dimension) (front low high from_low from_high lows highs : ChunkNumber) (old mid new : List (ArrayVec ℕ)) → 1 ≤ length low → 1 ≤ length high → from_low ≡ front ++ slice_index_or low 0 0 ∷ [] → from_high ≡ front ++ slice_index_or high 0 0 ∷ []
    → lows ≡ take (length low - 1) (drop 1 low) → highs ≡ take (length high - 1) (drop 1 high) → AddsPicks dims from_low lows highs old mid → AddsPicks dims from_high lows highs mid new → AddsPicks dims front low high old new
picks_both dims front [] high fl fh lows highs old mid new l h e f m n a b = absurd (omega (arith, l))
picks_both dims front (x ∷ low) [] fl fh lows highs old mid new l h e f m n a b = absurd (omega (arith, h))
picks_both dims front (x ∷ low) (y ∷ high) fl fh lows highs old mid new l h e f m n a b =
    let same : lows ≡ low = m ∙ take_rest (x ∷ low) 1 in
    let also : highs ≡ high = n ∙ take_rest (y ∷ high) 1 in
    let first : AddsPicks dims (front ++ x ∷ []) low high old mid = subst (λ (z : ChunkNumber). AddsPicks dims z low high old mid) e (subst (λ (z : ChunkNumber). AddsPicks dims fl low z old mid) also (subst (λ (z : ChunkNumber). AddsPicks dims fl z highs old mid) same a)) in
    let second : AddsPicks dims (front ++ y ∷ []) low high mid new = subst (λ (z : ChunkNumber). AddsPicks dims z low high mid new) f (subst (λ (z : ChunkNumber). AddsPicks dims fh low z mid new) also (subst (λ (z : ChunkNumber). AddsPicks dims fh z highs mid new) same b)) in
    picks_cons dims front x low y high old mid new first second

-- the same, where these first numbers are one
pub picks_once : (dims : List Dimension) (front low high from_low lows highs : ChunkNumber) (old new : List (ArrayVec ℕ)) → 1 ≤ length low → 1 ≤ length high → from_low ≡ front ++ slice_index_or low 0 0 ∷ [] → slice_index_or high 0 0 ≡ slice_index_or low 0 0
    → lows ≡ take (length low - 1) (drop 1 low) → highs ≡ take (length high - 1) (drop 1 high) → AddsPicks dims from_low lows highs old new → AddsPicks dims front low high old new
picks_once dims front low high fl lows highs old new l h e s m n a =
    picks_both dims front low high fl fl lows highs old new new l h e (e ∙ ap (λ (z : ℕ). front ++ z ∷ []) (sym s)) m n a (again dims fl lows highs old new a)

-- ---- the chunks of a box no longer than a chunk

below_or_from : (a b : ℕ) → (a < b) ⊎ (b ≤ a)
below_or_from zero zero = inr (omega arith)
below_or_from zero (suc b) = inl (omega arith)
below_or_from (suc a) zero = inr (omega arith)
below_or_from (suc a) (suc b) = further (below_or_from a b)
  where
    further : (a < b) ⊎ (b ≤ a) → (suc a < suc b) ⊎ (suc b ≤ suc a)
    further (inl h) = inl (omega (arith, h))
    further (inr h) = inr (omega (arith, h))

-- of places that are less than k apart, one between comes into the same part of length k as one of them
quotients : (a x b k : ℕ) → 0 < k → a ≤ x → x ≤ b → b < a + k → (x / k == a / k || x / k == b / k) ≡ true
quotients a x b k p ax xb ba = cases (below_or_from x (a / k * k + k))
  where
    low : a / k * k ≤ a
    low = div-mul-le_self a k

    up : a < a / k * k + k
    up = lt-div-mul-add p

    cases : (x < a / k * k + k) ⊎ (a / k * k + k ≤ x) → (x / k == a / k || x / k == b / k) ≡ true
    cases (inl h) = or_left (x / k == a / k) (x / k == b / k) (eq-eqb (x / k) (a / k) (quotient_of x (a / k) k (omega (arith, low, ax)) h))
    cases (inr h) =
        let step : (a / k + 1) * k ≡ a / k * k + k = grind arith in
        let first : x / k ≡ a / k + 1 = quotient_of x (a / k + 1) k (omega (arith, step, h)) (omega (arith, step, xb, ba, up, low)) in
        let second : b / k ≡ a / k + 1 = quotient_of b (a / k + 1) k (omega (arith, step, h, xb)) (omega (arith, step, ba, up)) in
        or_right (x / k == a / k) (x / k == b / k) (eq-eqb (x / k) (b / k) (first ∙ sym second))

-- how far a place, and the corners of what a core and a box share, are from the box's low corner
record Steps (a x b k : ℕ) : Type 0 where
  low : a ≤ x
  high : x ≤ b
  short : b < a + k

steps : (lo end l h x : ℤ) (m k : ℕ) → 0 < k → (lo +ℤ pos m) ≤ℤ x → x ≤ℤ int_min end (lo +ℤ pos (m + (k - 1))) → l ≤ℤ x → x ≤ℤ h
    → Steps (unsigned_abs (int_max (lo +ℤ pos m) l -ℤ l)) (unsigned_abs (x -ℤ l)) (unsigned_abs (int_min (int_min end (lo +ℤ pos (m + (k - 1)))) h -ℤ l)) k
steps lo end l h x m k p f g low high = record { low = omega (arith, ints, clamps); high = omega (arith, ints, clamps); short = omega (arith, ints, clamps) }

pick_side : (d : Dimension) (n : ℕ) (l h x : ℤ) → IsNear d → first_in d n ≤ℤ x → x ≤ℤ int_min d.hi (last_in d n) → l ≤ℤ x → x ≤ℤ h
    → (unsigned_abs (x -ℤ l) / d.chunk == unsigned_abs (int_max (first_in d n) l -ℤ l) / d.chunk || unsigned_abs (x -ℤ l) / d.chunk == unsigned_abs (int_min (int_min d.hi (last_in d n)) h -ℤ l) / d.chunk) ≡ true
pick_side d n l h x near f g low high =
    let s = steps d.lo d.hi l h x (n * d.chunk) d.chunk near.some f g low high in
    quotients (unsigned_abs (int_max (first_in d n) l -ℤ l)) (unsigned_abs (x -ℤ l)) (unsigned_abs (int_min (int_min d.hi (last_in d n)) h -ℤ l)) d.chunk near.some s.low s.high s.short

abbrev firsts : List Dimension → ChunkNumber → List ℤ
firsts dims k = by_pairs first_in dims k

abbrev lasts : List Dimension → ChunkNumber → List ℤ
lasts dims k = by_pairs (λ d n. int_min d.hi (last_in d n)) dims k

corner_picks : (dims : List Dimension) (k : ChunkNumber) (lo hi : List ℤ) (c : Coordinate) → AreNear dims → is_between (firsts dims k) (lasts dims k) c ≡ true → is_between lo hi c ≡ true
    → is_pick (chunks_from dims lo (by_pairs int_max (firsts dims k) lo)) (chunks_from dims lo (by_pairs int_min (lasts dims k) hi)) (chunks_from dims lo c) ≡ true
corner_picks [] k lo hi c near e f = refl
corner_picks (d ∷ dims) k [] hi c near e f = refl
corner_picks (d ∷ dims) [] (l ∷ lo) hi [] near e f = refl
corner_picks (d ∷ dims) [] (l ∷ lo) hi (x ∷ c) near e f = absurd cc
corner_picks (d ∷ dims) (n ∷ k) (l ∷ lo) hi [] near e f = absurd cc
corner_picks (d ∷ dims) (n ∷ k) (l ∷ lo) [] (x ∷ c) near e f = absurd cc
corner_picks (d ∷ dims) (n ∷ k) (l ∷ lo) (h ∷ hi) (x ∷ c) near e f =
    let t = and_parts (int_le (first_in d n) x && int_le x (int_min d.hi (last_in d n))) (is_between (firsts dims k) (lasts dims k) c) e in
    let u = and_parts (int_le (first_in d n) x) (int_le x (int_min d.hi (last_in d n))) t.0 in
    let t' = and_parts (int_le l x && int_le x h) (is_between lo hi c) f in
    let u' = and_parts (int_le l x) (int_le x h) t'.0 in
    and_both _ _
    (pick_side d n l h x near.0 (le_from_test (first_in d n) x u.0) (le_from_test x (int_min d.hi (last_in d n)) u.1) (le_from_test l x u'.0) (le_from_test x h u'.1))
    (corner_picks dims k lo hi c near.1 t.1 t'.1)

pub corners_reached : (schema : Schema) (dims : List Dimension) (number : ChunkNumber) (area shared : Bounds) (low high : ChunkNumber) (old new : List (ArrayVec ℕ)) → IsValid schema → shared ≡ meet (core schema.dimensions number) area
    → low ≡ chunks_from schema.dimensions area.lo.items shared.lo.items → high ≡ chunks_from schema.dimensions area.lo.items shared.hi.items → AddsPicks dims [] low high old new
    → AddsReached dims (is_inside area) (chunks_from schema.dimensions area.lo.items) (core schema.dimensions number) old new
corners_reached schema dims number area shared low high old new valid e l h adds = record {
  kept = adds.kept;
  cores = adds.cores;
  reached = λ c inside in_area has.
      adds.picked (chunks_from schema.dimensions area.lo.items c)
      ((λ i. is_pick (from_low i) (from_high i) (chunks_from schema.dimensions area.lo.items c))
      ∙ corner_picks schema.dimensions number area.lo.items area.hi.items c (valid_placed schema valid).near inside in_area)
      has;
}
  where
    from_low : low ≡ chunks_from schema.dimensions area.lo.items (by_pairs int_max (firsts schema.dimensions number) area.lo.items)
    from_low = l ∙ ap (λ (b : Bounds). chunks_from schema.dimensions area.lo.items b.lo.items) e

    from_high : high ≡ chunks_from schema.dimensions area.lo.items (by_pairs int_min (lasts schema.dimensions number) area.hi.items)
    from_high = h ∙ ap (λ (b : Bounds). chunks_from schema.dimensions area.lo.items b.hi.items) e

-- a core that shares no coordinate with the box
not_shared : (a b : Bounds) → is_inside (meet a b) (meet a b).lo.items ≡ false → LieApart a b
not_shared a b e = apart_where a b (cases (are_ordered (meet a b).lo.items (meet a b).hi.items) refl)
  where
    cases : (t : Bool) → are_ordered (meet a b).lo.items (meet a b).hi.items ≡ t → t ≡ false
    cases true f = let inside = lowest_is_inside (meet a b) f in absurd cc
    cases false f = refl

pub corners_apart : (schema : Schema) (dims : List Dimension) (number : ChunkNumber) (area shared : Bounds) (old : List (ArrayVec ℕ)) → shared ≡ meet (core schema.dimensions number) area → is_inside shared shared.lo.items ≡ false
    → AddsReached dims (is_inside area) (chunks_from schema.dimensions area.lo.items) (core schema.dimensions number) old old
corners_apart schema dims number area shared old e none = record {
  kept = λ k t. t;
  cores = λ all. all;
  reached = λ c inside in_area has. absurd (not_shared (core schema.dimensions number) area (subst (λ (b : Bounds). is_inside b b.lo.items ≡ false) e none) c inside in_area);
}
