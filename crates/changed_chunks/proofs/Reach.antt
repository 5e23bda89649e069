-- A chunk is wanted where a row that is put in lies in its reach: the box of all frames that meet its core.
use Rattle.std.proofs.Common.{◌≡◌, ℕ, zero, suc, ◌+◌, ◌-◌, ◌*◌, ◌/◌, ◌<◌, ◌≤◌, ℤ, pos, ◌+ℤ◌, ◌-ℤ◌, ◌≤ℤ◌, Bool, true, false, cond, ◌&&◌, ◌||◌, List, [], ◌∷◌, length, map, filter, ◌⊎◌, inl, inr, refl, sym, ap, ◌∙◌, arith}
use Rattle.std.specs.Prelude.{int_le, unsigned_abs}
use Rattle.std.specs.Int.{int_min, int_max}
use Rattle.std.specs.List.{AllByRecursion, flat_map, list_any}
use Rattle.std.proofs.lemmas.Bool.{cases_lt}
use Rattle.std.proofs.lemmas.Int.{ints, clamps}
use Rattle.std.proofs.lemmas.List.Folds.{list_any-append}
use Rattle.std.proofs.Math.Nat.{div-mul-le_self, lt-div-mul-add}
use Rattle.cell_values.specs.declared.datum.Row.{Row}
use Rattle.cell_values.specs.declared.schema.Bounds.{Bounds}
use Rattle.cell_values.specs.declared.schema.Dimension.{Dimension}
use Rattle.cell_values.specs.declared.schema.Schema.{Schema}
use Rattle.array_rows.specs.Boxes.{bounds_of, is_inside, within}
use Rattle.array_rows.specs.Rows.{Coordinate}
use Rattle.array_rows.proofs.RowsLemmas.{cond_out}
use Rattle.array_geom.specs.Geometry.{ChunkNumber, HasFrame, chunk_of, core, core_meets, first_in, frame, has_core, last_in, overlaps}
use Rattle.array_geom.specs.Inner.Ranges.{AreNear, IsNear}
use Rattle.array_geom.specs.Link.{has_cell, is_not_empty}
use Rattle.array_geom.proofs.CoreLaws.{chunk_has_core, core_in_frame, up_to_the_end}
use Rattle.array_geom.proofs.LinkLaws.{within-within}
use Rattle.array_geom.proofs.NearLemmas.{valid_placed}
use Rattle.array_geom.proofs.PlaceLaws.{above}
use Rattle.array_geom.proofs.TestLaws.{and_both, and_parts, le_from_test, le_test}
use Rattle.commit_pages.specs.Lengths.{meets}
use Rattle.plan_needs.proofs.AlikeScans.{chunk_meets}
use Rattle.changed_chunks.specs.Inner.Reach.{places_near, reach}
use Rattle.changed_chunks.specs.Wanted.{all_numbers, below, count_along, is_wanted, touched}

-- ---- tests and lists

pub same_test : (a b : Bool) → (a ≡ true → b ≡ true) → (b ≡ true → a ≡ true) → a ≡ b
same_test true b f g = sym (f refl)
same_test false true f g = g refl
same_test false false f g = refl

any_same : {A : Type 0} (f g : A → Bool) (xs : List A) → ((x : A) → f x ≡ g x) → list_any f xs ≡ list_any g xs
any_same f g [] h = refl
any_same f g (x ∷ xs) h = (λ i. h x i || any_same f g xs h i)

any_none : {A : Type 0} (f : A → Bool) (xs : List A) → ((x : A) → f x ≡ false) → list_any f xs ≡ false
any_none f [] h = refl
any_none f (x ∷ xs) h = (λ i. h x i || any_none f xs h i)

any_map : {A B : Type 0} (f : B → Bool) (g : A → B) (xs : List A) → list_any f (map g xs) ≡ list_any (λ x. f (g x)) xs
any_map f g [] = refl
any_map f g (x ∷ xs) = ap (λ (b : Bool). f (g x) || b) (any_map f g xs)

-- lists that begin with one of some numbers
any_product : (f : ChunkNumber → Bool) (rest : List ChunkNumber) (ks : List ℕ) → list_any f (flat_map (λ k. map (λ r. k ∷ r) rest) ks) ≡ list_any (λ k. list_any (λ r. f (k ∷ r)) rest) ks
any_product f rest [] = refl
any_product f rest (k ∷ ks) =
    list_any-append f (map (λ r. k ∷ r) rest) (flat_map (λ j. map (λ r. j ∷ r) rest) ks)
    ∙ (λ i. any_map f (λ (r : ChunkNumber). k ∷ r) rest i || any_product f rest ks i)

any_left : {A : Type 0} (b : Bool) (g : A → Bool) (xs : List A) → list_any (λ x. b && g x) xs ≡ (b && list_any g xs)
any_left true g xs = refl
any_left false g xs = any_none (λ x. false) xs (λ x. refl)

any_right : {A : Type 0} (b : Bool) (g : A → Bool) (xs : List A) → list_any (λ x. g x && b) xs ≡ (list_any g xs && b)
any_right b g [] = refl
any_right b g (x ∷ xs) = ap (λ (z : Bool). (g x && b) || z) (any_right b g xs) ∙ table (g x) (list_any g xs) b
  where
    table : (p q b : Bool) → ((p && b) || (q && b)) ≡ ((p || q) && b)
    table true true true = refl
    table true false true = refl
    table true true false = refl
    table true false false = refl
    table false q b = refl

pub any_filter : {A : Type 0} (p q : A → Bool) (xs : List A) → list_any p (filter q xs) ≡ list_any (λ x. q x && p x) xs
any_filter p q [] = refl
any_filter p q (x ∷ xs) =
    cond_out (list_any p) (q x) (x ∷ filter q xs) (filter q xs)
    ∙ table (q x) (p x) (list_any p (filter q xs))
    ∙ ap (λ (z : Bool). (q x && p x) || z) (any_filter p q xs)
  where
    table : (s t r : Bool) → cond s (t || r) r ≡ ((s && t) || r)
    table true t r = refl
    table false t r = refl

any_or : {A : Type 0} (f g p : A → Bool) (xs : List A) → list_any (λ x. (f x || g x) && p x) xs ≡ (list_any (λ x. f x && p x) xs || list_any (λ x. g x && p x) xs)
any_or f g p [] = refl
any_or f g p (x ∷ xs) =
    ap (λ (z : Bool). ((f x || g x) && p x) || z) (any_or f g p xs)
    ∙ table (f x) (g x) (p x) (list_any (λ y. f y && p y) xs) (list_any (λ y. g y && p y) xs)
  where
    table : (f g p a b : Bool) → (((f || g) && p) || (a || b)) ≡ (((f && p) || a) || ((g && p) || b))
    table true true true a b = refl
    table true false true a b = refl
    table true true false a b = refl
    table true false false a b = refl
    table false true true true b = refl
    table false true true false b = refl
    table false true false a b = refl
    table false false p a b = refl

-- some element has a row that passes, and passes itself: some row has such an element
any_turned : {A B : Type 0} (g : A → B → Bool) (p : A → Bool) (xs : List A) (ys : List B) → list_any (λ x. list_any (g x) ys && p x) xs ≡ list_any (λ y. list_any (λ x. g x y && p x) xs) ys
any_turned g p xs [] = any_none (λ x. false) xs (λ x. refl)
any_turned g p xs (y ∷ ys) =
    any_or (λ x. g x y) (λ x. list_any (g x) ys) p xs
    ∙ ap (λ (z : Bool). list_any (λ x. g x y && p x) xs || z) (any_turned g p xs ys)

pub not_empty_any : (area : Bounds) (rows : List Row) → is_not_empty (within area rows) ≡ list_any (λ row. is_inside area row.at.items) rows
not_empty_any area [] = refl
not_empty_any area (row ∷ rows) =
    cond_out is_not_empty (is_inside area row.at.items) (row ∷ within area rows) (within area rows)
    ∙ ap (cond (is_inside area row.at.items) true) (not_empty_any area rows)
    ∙ table (is_inside area row.at.items) (list_any (λ r. is_inside area r.at.items) rows)
  where
    table : (t r : Bool) → cond t true r ≡ (t || r)
    table true r = refl
    table false r = refl

-- ---- numbers below one

or_false : (a : Bool) → (a || false) ≡ a
or_false true = refl
or_false false = refl

any_more : (f : ℕ → Bool) (n : ℕ) → list_any f (below (suc n)) ≡ (list_any f (below n) || f n)
any_more f n = list_any-append f (below n) (n ∷ []) ∙ ap (λ (b : Bool). list_any f (below n) || b) (or_false (f n))

record Found (f : ℕ → Bool) (n : ℕ) : Type 0 where
  number : ℕ
  less : number < n
  passes : f number ≡ true

any_below : (f : ℕ → Bool) (n : ℕ) → list_any f (below n) ≡ true → Found f n
any_below f zero e = absurd cc
any_below f (suc n) e = by_test (list_any f (below n)) (f n) (sym (any_more f n) ∙ e) (any_below f n) refl refl
  where
    by_test : (a b : Bool) → (a || b) ≡ true → (list_any f (below n) ≡ true → Found f n) → list_any f (below n) ≡ a → f n ≡ b → Found f (suc n)
    by_test true b t ih p q = let h = ih p in let l : h.number < n = h.less in record { number = h.number; less = omega (arith, l); passes = h.passes }
    by_test false true t ih p q = record { number = n; less = omega arith; passes = q }
    by_test false false t ih p q = absurd cc

below_any : (f : ℕ → Bool) (n k : ℕ) → k < n → f k ≡ true → list_any f (below n) ≡ true
below_any f zero k l e = absurd (omega arith)
below_any f (suc n) k l e = any_more f n ∙ by_case (cases_lt k n) (below_any f n k)
  where
    last : (a b : Bool) → b ≡ true → (a || b) ≡ true
    last true b t = refl
    last false b t = t

    by_case : (k < n) ⊎ (n ≤ k) → (k < n → f k ≡ true → list_any f (below n) ≡ true) → (list_any f (below n) || f n) ≡ true
    by_case (inl less) ih = ap (λ (b : Bool). b || f n) (ih less e)
    by_case (inr least) ih =
        let same : k ≡ n = omega (arith, l, least) in
        last (list_any f (below n)) (f n) (ap f (sym same) ∙ e)

-- ---- one dimension

fits_below : (a k c : ℕ) → 0 < c → a * c ≤ k * c + (c - 1) → a ≤ k
fits_below a k c p h = grind arith

product_grows : (a k c : ℕ) → a ≤ k → a * c ≤ k * c
product_grows a k c h = grind arith

less_product : (a k c : ℕ) → a < k → a * c + c ≤ k * c
less_product a k c h = grind arith

-- a place and the chunk that has it
record HasPlace (lo x : ℤ) (c n : ℕ) : Type 0 where
  low : (lo +ℤ pos (n * c)) ≤ℤ x
  high : x ≤ℤ (lo +ℤ pos (n * c + (c - 1)))

place_of : (lo x : ℤ) (c : ℕ) → 0 < c → lo ≤ℤ x → HasPlace lo x c (unsigned_abs (x -ℤ lo) / c)
place_of lo x c p h =
    let e = above lo x h in
    let m = div-mul-le_self (unsigned_abs (x -ℤ lo)) c in
    let l : unsigned_abs (x -ℤ lo) < unsigned_abs (x -ℤ lo) / c * c + c = lt-div-mul-add p in
    record { low = omega (arith, ints, e, m); high = omega (arith, ints, e, l) }

-- of two places the later one has no earlier chunk
place_order : (lo x y : ℤ) (c n m : ℕ) → 0 < c → HasPlace lo x c n → HasPlace lo y c m → x ≤ℤ y → n ≤ m
place_order lo x y c n m p h k le =
    let a = h.low in
    let b = k.high in
    fits_below n m c p (omega (arith, ints, a, b, le))

-- the reach of the chunk q in one dimension, by the first and the last chunk that have a place near it
record Reaches (lo hi : ℤ) (c m q a b : ℕ) : Type 0 where
  some : 0 < c
  order : lo ≤ℤ hi
  core : (lo +ℤ pos (q * c)) ≤ℤ hi
  first : HasPlace lo (int_max ((lo +ℤ pos (q * c)) -ℤ pos m) lo) c a
  last : HasPlace lo (int_min ((lo +ℤ pos (q * c + (c - 1))) +ℤ pos m) hi) c b

-- what is said of the chunk k: its frame has the place x, and meets the core of the chunk q
record Meets (lo hi x : ℤ) (c m q k : ℕ) : Type 0 where
  from : ((lo +ℤ pos (k * c)) -ℤ pos m) ≤ℤ x
  upto : x ≤ℤ ((lo +ℤ pos (k * c + (c - 1))) +ℤ pos m)
  shared : int_max (lo +ℤ pos (q * c)) ((lo +ℤ pos (k * c)) -ℤ pos m) ≤ℤ int_min (int_min hi (lo +ℤ pos (q * c + (c - 1)))) ((lo +ℤ pos (k * c + (c - 1))) +ℤ pos m)

record IsReached (lo x : ℤ) (c m a b : ℕ) : Type 0 where
  from : ((lo +ℤ pos (a * c)) -ℤ pos m) ≤ℤ x
  upto : x ≤ℤ ((lo +ℤ pos (b * c + (c - 1))) +ℤ pos m)

module _ (lo hi : ℤ) (c m q a b : ℕ) (r : Reaches lo hi c m q a b) where
  meets_in_reach : (x : ℤ) (k : ℕ) → (lo +ℤ pos (k * c)) ≤ℤ hi → Meets lo hi x c m q k → IsReached lo x c m a b
  meets_in_reach x k has h =
      let p = r.some in
      let f = r.first.low in
      let l = r.last.high in
      let s = h.shared in
      let u = h.from in
      let v = h.upto in
      let low : a * c ≤ k * c + (c - 1) = omega (arith, ints, clamps, f, s, p) in
      let high : k * c ≤ b * c + (c - 1) = omega (arith, ints, clamps, l, s, has) in
      let low_product = product_grows a k c (fits_below a k c p low) in
      let high_product = product_grows k b c (fits_below k b c p high) in
      record { from = omega (arith, ints, u, low_product); upto = omega (arith, ints, v, high_product) }

  -- each chunk from the first to the last one has a core, and its frame meets the core
  record Between (k : ℕ) : Type 0 where
    has : (lo +ℤ pos (k * c)) ≤ℤ hi
    shared : int_max (lo +ℤ pos (q * c)) ((lo +ℤ pos (k * c)) -ℤ pos m) ≤ℤ int_min (int_min hi (lo +ℤ pos (q * c + (c - 1)))) ((lo +ℤ pos (k * c + (c - 1))) +ℤ pos m)

  between : (k : ℕ) → a ≤ k → k ≤ b → Between k
  between k h g =
      let p = r.some in
      let o = r.order in
      let s = r.core in
      let f = r.first.high in
      let l = r.last.low in
      let low = product_grows a k c h in
      let high = product_grows k b c g in
      record { has = omega (arith, ints, clamps, l, high); shared = omega (arith, ints, clamps, f, l, low, high, p, o, s) }

  first_before : a ≤ b
  first_before =
      let o = r.order in
      let s = r.core in
      place_order lo _ _ c a b r.some r.first r.last (omega (arith, ints, clamps, o, s))

  record Reaching (x : ℤ) : Type 0 where
    number : ℕ
    has : (lo +ℤ pos (number * c)) ≤ℤ hi
    meets : Meets lo hi x c m q number

  reached_by : (x : ℤ) (n : ℕ) → HasPlace lo x c n → IsReached lo x c m a b → Reaching x
  reached_by x n place is = by_first (cases_lt n a)
    where
      at : (k : ℕ) → a ≤ k → k ≤ b → ((lo +ℤ pos (k * c)) -ℤ pos m) ≤ℤ x → x ≤ℤ ((lo +ℤ pos (k * c + (c - 1))) +ℤ pos m) → Reaching x
      at k h g from upto = let w = between k h g in record { number = k; has = w.has; meets = record { from = from; upto = upto; shared = w.shared } }

      by_last : a ≤ n → (b < n) ⊎ (n ≤ b) → Reaching x
      by_last h (inl less) =
          let u = place.low in
          let w = less_product b n c less in
          at b first_before (omega arith) (omega (arith, ints, u, w)) is.upto
      by_last h (inr least) =
          let u = place.low in
          let v = place.high in
          at n h least (omega (arith, ints, u)) (omega (arith, ints, v))

      by_first : (n < a) ⊎ (a ≤ n) → Reaching x
      by_first (inl less) =
          let v = place.high in
          let w = less_product n a c less in
          let p = r.some in
          at a (omega arith) first_before is.from (omega (arith, ints, v, w, p))
      by_first (inr least) = by_last least (cases_lt b n)

-- ---- one dimension, by tests

abbrev first_number : Dimension → ℕ → ℕ → ℕ
first_number d m q = unsigned_abs (int_max (first_in d q -ℤ pos m) d.lo -ℤ d.lo) / d.chunk

abbrev last_number : Dimension → ℕ → ℕ → ℕ
last_number d m q = unsigned_abs (int_min (last_in d q +ℤ pos m) d.hi -ℤ d.lo) / d.chunk

-- the frame of the chunk k has the place, and meets the core of the chunk q
abbrev has_and_meets : Dimension → ℕ → ℕ → ℤ → ℕ → Bool
has_and_meets d m q x k =
    (int_le (first_in d k -ℤ pos m) x && int_le x (last_in d k +ℤ pos m))
    && int_le (int_max (first_in d q) (first_in d k -ℤ pos m)) (int_min (int_min d.hi (last_in d q)) (last_in d k +ℤ pos m))

module _ (d : Dimension) (m q : ℕ) (near : IsNear d) (core : first_in d q ≤ℤ d.hi) where
  reaches : Reaches d.lo d.hi d.chunk m q (first_number d m q) (last_number d m q)
  reaches =
      let o = near.order in
      record {
        some = near.some;
        order = near.order;
        core = core;
        first = place_of d.lo (int_max (first_in d q -ℤ pos m) d.lo) d.chunk near.some (omega (arith, ints, clamps));
        last = place_of d.lo (int_min (last_in d q +ℤ pos m) d.hi) d.chunk near.some (omega (arith, ints, clamps, o));
      }

  module _ (x : ℤ) (low : d.lo ≤ℤ x) (high : x ≤ℤ d.hi) where
    in_reach : list_any (has_and_meets d m q x) (below (count_along d)) ≡ true → (int_le (first_in d (first_number d m q) -ℤ pos m) x && int_le x (last_in d (last_number d m q) +ℤ pos m)) ≡ true
    in_reach e =
        let h = any_below (has_and_meets d m q x) (count_along d) e in
        let l : h.number < unsigned_abs (d.hi -ℤ d.lo) / d.chunk + 1 = h.less in
        let has : first_in d h.number ≤ℤ d.hi = up_to_the_end d h.number near.some near.order (omega (arith, l)) in
        let t = and_parts _ _ h.passes in
        let u = and_parts _ _ t.0 in
        let w = meets_in_reach d.lo d.hi d.chunk m q (first_number d m q) (last_number d m q) reaches x h.number has (record { from = le_from_test _ _ u.0; upto = le_from_test _ _ u.1; shared = le_from_test _ _ t.1 }) in
        and_both _ _ (le_test _ _ w.from) (le_test _ _ w.upto)

    from_reach : (int_le (first_in d (first_number d m q) -ℤ pos m) x && int_le x (last_in d (last_number d m q) +ℤ pos m)) ≡ true → list_any (has_and_meets d m q x) (below (count_along d)) ≡ true
    from_reach e =
        let u = and_parts _ _ e in
        let w = reached_by d.lo d.hi d.chunk m q (first_number d m q) (last_number d m q) reaches x (unsigned_abs (x -ℤ d.lo) / d.chunk) (place_of d.lo x d.chunk near.some low) (record { from = le_from_test _ _ u.0; upto = le_from_test _ _ u.1 }) in
        let has = w.has in
        let top : d.hi ≤ℤ (d.lo +ℤ pos (unsigned_abs (d.hi -ℤ d.lo) / d.chunk * d.chunk + (d.chunk - 1))) = (place_of d.lo d.hi d.chunk near.some near.order).high in
        let least : w.number ≤ unsigned_abs (d.hi -ℤ d.lo) / d.chunk = fits_below w.number (unsigned_abs (d.hi -ℤ d.lo) / d.chunk) d.chunk near.some (omega (arith, ints, has, top)) in
        below_any (has_and_meets d m q x) (count_along d) w.number (omega (arith, least))
        (and_both _ _ (and_both _ _ (le_test _ _ w.meets.from) (le_test _ _ w.meets.upto)) (le_test _ _ w.meets.shared))

    along : list_any (has_and_meets d m q x) (below (count_along d)) ≡ (int_le (first_in d (first_number d m q) -ℤ pos m) x && int_le x (last_in d (last_number d m q) +ℤ pos m))
    along = same_test _ _ in_reach from_reach

-- ---- all dimensions

regroup : (a p c r : Bool) → ((a && p) && (c && r)) ≡ ((a && c) && (p && r))
regroup false p c r = refl
regroup true true c r = refl
regroup true false true r = refl
regroup true false false r = refl

-- a place lies in the frame of a chunk that meets a core: it lies in the core's reach
pub reached : (dims : List Dimension) (margins : List ℕ) (s : ChunkNumber) (c : Coordinate) → AreNear dims → length margins ≡ length dims → has_core dims s ≡ true → is_inside (bounds_of dims) c ≡ true
    → list_any (λ k. is_inside (frame dims margins k) c && core_meets dims (frame dims margins k) s) (all_numbers dims) ≡ is_inside (reach dims margins s) c
reached [] [] [] [] near n h e = refl
reached [] [] [] (x ∷ c) near n h e = absurd cc
reached [] [] (q ∷ s) c near n h e = absurd cc
reached [] (m ∷ margins) s c near n h e = absurd (omega arith)
reached (d ∷ dims) [] s c near n h e = absurd (omega arith)
reached (d ∷ dims) (m ∷ margins) [] c near n h e = absurd cc
reached (d ∷ dims) (m ∷ margins) (q ∷ s) [] near n h e = absurd cc
reached (d ∷ dims) (m ∷ margins) (q ∷ s) (x ∷ c) near n h e =
    let t = and_parts (int_le (first_in d q) d.hi) (has_core dims s) h in
    let b = and_parts (int_le d.lo x && int_le x d.hi) (is_inside (bounds_of dims) c) e in
    let lh = and_parts (int_le d.lo x) (int_le x d.hi) b.0 in
    let rest : ChunkNumber → Bool = λ ks. is_inside (frame dims margins ks) c && core_meets dims (frame dims margins ks) s in
    any_product (λ k. is_inside (frame (d ∷ dims) (m ∷ margins) k) (x ∷ c) && core_meets (d ∷ dims) (frame (d ∷ dims) (m ∷ margins) k) (q ∷ s)) (all_numbers dims) (below (count_along d))
    ∙ any_same _ (λ k. has_and_meets d m q x k && list_any rest (all_numbers dims)) (below (count_along d)) (λ k.
    any_same _ (λ ks. has_and_meets d m q x k && rest ks) (all_numbers dims) (λ ks.
    regroup (int_le (first_in d k -ℤ pos m) x && int_le x (last_in d k +ℤ pos m)) (is_inside (frame dims margins ks) c)
    (int_le (int_max (first_in d q) (first_in d k -ℤ pos m)) (int_min (int_min d.hi (last_in d q)) (last_in d k +ℤ pos m))) (core_meets dims (frame dims margins ks) s))
    ∙ any_left (has_and_meets d m q x k) rest (all_numbers dims))
    ∙ any_right (list_any rest (all_numbers dims)) (has_and_meets d m q x) (below (count_along d))
    ∙ (λ i. along d m q near.0 (le_from_test _ _ t.0) x (le_from_test _ _ lh.0) (le_from_test _ _ lh.1) i && reached dims margins s c near.1 (omega arith) t.1 b.1 i)

-- ---- rows that are put in

any_row : (f g : Coordinate → Bool) (dims : List Dimension) (rows : List Row) → AllByRecursion (λ row. is_inside (bounds_of dims) row.at.items ≡ true) rows
    → ((c : Coordinate) → is_inside (bounds_of dims) c ≡ true → f c ≡ g c) → list_any (λ (row : Row). f row.at.items) rows ≡ list_any (λ (row : Row). g row.at.items) rows
any_row f g dims [] all h = refl
any_row f g dims (row ∷ rows) all h = (λ i. h row.at.items all.0 i || any_row f g dims rows all.1 h i)

-- a core meets the frame of a chunk whose frame holds a row that is put in: such a row lies in its reach
pub wanted_in_reach : (dims : List Dimension) (s : ChunkNumber) (rows : List Row) → AreNear dims → length (overlaps dims) ≡ length dims → has_core dims s ≡ true
    → AllByRecursion (λ row. is_inside (bounds_of dims) row.at.items ≡ true) rows
    → list_any (λ k. core_meets dims (frame dims (overlaps dims) k) s) (touched dims rows) ≡ is_not_empty (within (reach dims (overlaps dims) s) rows)
wanted_in_reach dims s rows near n h all =
    let frames : ChunkNumber → Bounds = λ k. frame dims (overlaps dims) k in
    any_filter (λ k. core_meets dims (frames k) s) (λ k. meets dims rows k) (all_numbers dims)
    ∙ any_same (λ k. meets dims rows k && core_meets dims (frames k) s) (λ k. list_any (λ row. is_inside (frames k) row.at.items) rows && core_meets dims (frames k) s) (all_numbers dims)
    (λ k. ap (λ (b : Bool). b && core_meets dims (frames k) s) (not_empty_any (frames k) rows))
    ∙ any_turned (λ k (row : Row). is_inside (frames k) row.at.items) (λ k. core_meets dims (frames k) s) (all_numbers dims) rows
    ∙ any_row (λ c. list_any (λ k. is_inside (frames k) c && core_meets dims (frames k) s) (all_numbers dims)) (is_inside (reach dims (overlaps dims) s)) dims rows all
    (λ c e. reached dims (overlaps dims) s c near n h e)
    ∙ sym (not_empty_any (reach dims (overlaps dims) s) rows)

-- ---- the numbers of all chunks

-- a chunk that has a core is among them
pub any_number : (dims : List Dimension) (f : ChunkNumber → Bool) (k : ChunkNumber) → AreNear dims → has_core dims k ≡ true → f k ≡ true → list_any f (all_numbers dims) ≡ true
any_number [] f [] near h e = ap (λ (b : Bool). b || false) e
any_number [] f (q ∷ k) near h e = absurd cc
any_number (d ∷ dims) f [] near h e = absurd cc
any_number (d ∷ dims) f (q ∷ k) near h e =
    let t = and_parts (int_le (first_in d q) d.hi) (has_core dims k) h in
    let has : first_in d q ≤ℤ d.hi = le_from_test _ _ t.0 in
    let top : d.hi ≤ℤ (d.lo +ℤ pos (unsigned_abs (d.hi -ℤ d.lo) / d.chunk * d.chunk + (d.chunk - 1))) = (place_of d.lo d.hi d.chunk near.0.some near.0.order).high in
    let least : q ≤ unsigned_abs (d.hi -ℤ d.lo) / d.chunk = fits_below q (unsigned_abs (d.hi -ℤ d.lo) / d.chunk) d.chunk near.0.some (omega (arith, ints, has, top)) in
    any_product f (all_numbers dims) (below (count_along d))
    ∙ below_any (λ j. list_any (λ ks. f (j ∷ ks)) (all_numbers dims)) (count_along d) q (omega (arith, least)) (any_number dims (λ ks. f (q ∷ ks)) k near.1 t.1 e)

-- ---- the places near a chunk

low_inside : (lo hi x : ℤ) → lo ≤ℤ hi → x ≤ℤ hi → (lo ≤ℤ int_max x lo) × (int_max x lo ≤ℤ hi)
low_inside lo hi x o h = (omega (arith, ints, clamps), omega (arith, ints, clamps))

high_inside : (lo hi y : ℤ) → lo ≤ℤ hi → lo ≤ℤ y → (lo ≤ℤ int_min y hi) × (int_min y hi ≤ℤ hi)
high_inside lo hi y o h = (omega (arith, ints, clamps), omega (arith, ints, clamps))

pub corners_inside : (dims : List Dimension) (margins : List ℕ) (k : ChunkNumber) → AreNear dims → length margins ≡ length dims → has_core dims k ≡ true
    → (is_inside (bounds_of dims) (places_near dims margins k).lo.items ≡ true) × (is_inside (bounds_of dims) (places_near dims margins k).hi.items ≡ true)
corners_inside [] [] [] near n h = (refl, refl)
corners_inside [] [] (q ∷ k) near n h = absurd cc
corners_inside [] (m ∷ margins) k near n h = absurd (omega arith)
corners_inside (d ∷ dims) [] k near n h = absurd (omega arith)
corners_inside (d ∷ dims) (m ∷ margins) [] near n h = absurd cc
corners_inside (d ∷ dims) (m ∷ margins) (q ∷ k) near n h =
    let t = and_parts (int_le (first_in d q) d.hi) (has_core dims k) h in
    let has : first_in d q ≤ℤ d.hi = le_from_test _ _ t.0 in
    let before : (first_in d q -ℤ pos m) ≤ℤ d.hi = omega (arith, ints, has) in
    let behind : d.lo ≤ℤ (last_in d q +ℤ pos m) = omega (arith, ints) in
    let low = low_inside d.lo d.hi (first_in d q -ℤ pos m) near.0.order before in
    let high = high_inside d.lo d.hi (last_in d q +ℤ pos m) near.0.order behind in
    let more = corners_inside dims margins k near.1 (omega arith) t.1 in
    (and_both _ _ (and_both _ _ (le_test _ _ low.0) (le_test _ _ low.1)) more.0, and_both _ _ (and_both _ _ (le_test _ _ high.0) (le_test _ _ high.1)) more.1)

-- what the calls hand on
module _ (schema : Schema) (margins : List ℕ) (k : ChunkNumber) (framed : HasFrame schema margins k) (near : Bounds) (is : near ≡ places_near schema.dimensions margins k) where
  both_inside : (is_inside (bounds_of schema.dimensions) (places_near schema.dimensions margins k).lo.items ≡ true) × (is_inside (bounds_of schema.dimensions) (places_near schema.dimensions margins k).hi.items ≡ true)
  both_inside = corners_inside schema.dimensions margins k (valid_placed schema framed.valid).near framed.each framed.core

  pub first_inside : is_inside (bounds_of schema.dimensions) near.lo.items ≡ true
  first_inside = ap (λ (b : Bounds). is_inside (bounds_of schema.dimensions) b.lo.items) is ∙ both_inside.0

  pub last_inside : is_inside (bounds_of schema.dimensions) near.hi.items ≡ true
  last_inside = ap (λ (b : Bounds). is_inside (bounds_of schema.dimensions) b.hi.items) is ∙ both_inside.1

-- the chunk of a place has a frame too
pub frame_there : (schema : Schema) (margins : List ℕ) (k n : ChunkNumber) (c : Coordinate) → HasFrame schema margins k → is_inside (bounds_of schema.dimensions) c ≡ true → n ≡ chunk_of schema.dimensions c → HasFrame schema margins n
frame_there schema margins k n c framed inside is = record {
  valid = framed.valid;
  core = ap (has_core schema.dimensions) is ∙ chunk_has_core schema.dimensions c inside;
  each = framed.each;
  places = framed.places;
}

-- ---- a chunk whose core holds a row that is put in

pub met_of : (inner outer : Bounds) (rows : List Row) → ((c : Coordinate) → is_inside inner c ≡ true → is_inside outer c ≡ true) → is_not_empty (within inner rows) ≡ true → is_not_empty (within outer rows) ≡ true
met_of inner outer rows lies some = by_rows (within outer rows) (within-within inner outer rows lies)
  where
    by_rows : (found : List Row) → within inner found ≡ within inner rows → is_not_empty found ≡ true
    by_rows [] e = let none : false ≡ true = ap is_not_empty e ∙ some in absurd cc
    by_rows (row ∷ found) e = refl

record HasPlaceIn (area : Bounds) : Type 0 where
  at : Coordinate
  inside : is_inside area at ≡ true

place_in : (area : Bounds) (rows : List Row) → is_not_empty (within area rows) ≡ true → HasPlaceIn area
place_in area [] e = absurd cc
place_in area (row ∷ rows) e = by_test (is_inside area row.at.items) refl e (place_in area rows)
  where
    by_test : (t : Bool) → is_inside area row.at.items ≡ t → is_not_empty (cond t (row ∷ within area rows) (within area rows)) ≡ true → (is_not_empty (within area rows) ≡ true → HasPlaceIn area) → HasPlaceIn area
    by_test true f g later = record { at = row.at.items; inside = f }
    by_test false f g later = later g

-- it is wanted
pub held_wanted : (dims : List Dimension) (k : ChunkNumber) (rows : List Row) → AreNear dims → length (overlaps dims) ≡ length dims → has_core dims k ≡ true → has_cell dims rows k ≡ true → is_wanted dims rows k ≡ true
held_wanted dims k rows near n cored held =
    let area = frame dims (overlaps dims) k in
    let place = place_in (core dims k) rows held in
    let framed = λ (c : Coordinate). core_in_frame dims (overlaps dims) k c n in
    let touches : meets dims rows k ≡ true = met_of (core dims k) area rows framed held in
    let met : core_meets dims area k ≡ true = chunk_meets dims area k place.at place.inside (framed place.at place.inside) in
    and_both _ _ cored
    (any_filter (λ j. core_meets dims (frame dims (overlaps dims) j) k) (λ j. meets dims rows j) (all_numbers dims)
    ∙ any_number dims (λ j. meets dims rows j && core_meets dims (frame dims (overlaps dims) j) k) k near cored (and_both _ _ touches met))
