-- Numbers without the synthetic ones, and counts of targets by them.
use Rattle.std.proofs.Common.{◌≡◌, ℕ, ◌+◌, ◌<◌, ◌≤◌, ℤ, pos, Bool, true, false, cond, ◌||◌, List, [], ◌∷◌, ◌++◌, length, filter, map, Option, Some, refl, sym, ap, ◌∙◌, arith}
use Rattle.std.proofs.lemmas.Bool.{ne_eqb}
use Rattle.std.proofs.lemmas.Int.{ints}
use Rattle.std.proofs.lemmas.List.{append-nil}
use Rattle.std.specs.BTreeMap as tree
use Rattle.std.specs.BTreeMap.{BTreeMap, Updates}
use Rattle.std.specs.List.{list_any}
use Rattle.std.specs.Option.{unwrap_or}
use Rattle.std.specs.Ordering.{is_eq}
use Rattle.std.specs.Prelude.{◌==◌, ◌&&◌, ◌+ℤ◌}
use Rattle.std.specs.declared.cmp.Ordering.{Ordering}
use Rattle.std.specs.declared.cmp.Ordering.TheVariants.{Less, Equal, Greater}
use Rattle.arrayvec.specs.ArrayVec.{ArrayVec}
use Rattle.array_rows.specs.Boxes.{is_between}
use Rattle.array_rows.specs.Rows.{Coordinate, row_major}
use Rattle.array_rows.proofs.RowsLemmas.{row_major_exact}
use Rattle.logical_plan.specs.BoxOps.{items_but}
use Rattle.logical_plan.specs.Redimension.{Origin, from_dimension, from_attribute, counted, counted_places, counted_up, alike_so_far}
use Rattle.redimension_exec.specs.declared.places.places.Place.{Place}
use Rattle.redimension_exec.specs.Inner.Places.{origin}
use Rattle.redimension_exec.specs.Inner.Counting.{by_numbers, has_counted, uncounted, HasLows, landed_with}

pub and_false : (a b : Bool) → b ≡ false → (a && b) ≡ false
and_false true b e = e
and_false false b e = refl

-- ---- numbers but the synthetic ones

items_but_none : (n : ℕ) (c : Coordinate) → items_but [] n c ≡ c
items_but_none n [] = refl
items_but_none n (x ∷ c) = ap (λ (rest : Coordinate). x ∷ rest) (items_but_none (n + 1) c)

none_below : (origins : List Origin) (n m : ℕ) → n < m → list_any (λ place. place == n) (counted_places origins m) ≡ false
none_below [] n m l = refl
none_below (counted lo ∷ origins) n m l = λ i. ne_eqb m n (λ e. omega (arith, l, e)) i || none_below origins n (m + 1) (omega (arith, l)) i
none_below (from_dimension place ∷ origins) n m l = none_below origins n (m + 1) (omega (arith, l))
none_below (from_attribute place ∷ origins) n m l = none_below origins n (m + 1) (omega (arith, l))

skip_below : (n m : ℕ) (places : List ℕ) (c : Coordinate) → n < m → items_but (n ∷ places) m c ≡ items_but places m c
skip_below n m places [] l = refl
skip_below n m places (x ∷ c) l =
    let rest : items_but (n ∷ places) (m + 1) c ≡ items_but places (m + 1) c = skip_below n (m + 1) places c (omega (arith, l)) in
    λ i. cond (ne_eqb n m (λ e. omega (arith, l, e)) i || list_any (λ place. place == m) places) (rest i) (x ∷ rest i)

kept : (origins : List Origin) (n : ℕ) (x : ℤ) (c : Coordinate) → items_but (counted_places origins (n + 1)) (n + 1) c ≡ uncounted origins c
    → items_but (counted_places origins (n + 1)) n (x ∷ c) ≡ x ∷ uncounted origins c
kept origins n x c rest =
    (λ i. cond (none_below origins n (n + 1) (omega arith) i) (items_but (counted_places origins (n + 1)) (n + 1) c) (x ∷ items_but (counted_places origins (n + 1)) (n + 1) c))
    ∙ ap (λ (more : Coordinate). x ∷ more) rest

pub uncounted_is : (origins : List Origin) (n : ℕ) (c : Coordinate) → items_but (counted_places origins n) n c ≡ uncounted origins c
uncounted_is [] n c = items_but_none n c
uncounted_is (o ∷ origins) n [] = refl
uncounted_is (counted lo ∷ origins) n (x ∷ c) =
    let places : List ℕ = counted_places origins (n + 1) in
    let same : (n == n) ≡ true = grind arith in
    (λ i. cond (same i || list_any (λ place. place == n) places) (items_but (n ∷ places) (n + 1) c) (x ∷ items_but (n ∷ places) (n + 1) c))
    ∙ skip_below n (n + 1) places c (omega arith)
    ∙ uncounted_is origins (n + 1) c
uncounted_is (from_dimension place ∷ origins) n (x ∷ c) = kept origins n x c (uncounted_is origins (n + 1) c)
uncounted_is (from_attribute place ∷ origins) n (x ∷ c) = kept origins n x c (uncounted_is origins (n + 1) c)

pub uncounted_up : (origins : List Origin) (n : ℕ) (c : Coordinate) → uncounted origins (counted_up origins n c) ≡ uncounted origins c
uncounted_up [] n c = refl
uncounted_up (o ∷ origins) n [] = refl
uncounted_up (counted lo ∷ origins) n (x ∷ c) = uncounted_up origins n c
uncounted_up (from_dimension place ∷ origins) n (x ∷ c) = ap (λ (rest : Coordinate). x ∷ rest) (uncounted_up origins n c)
uncounted_up (from_attribute place ∷ origins) n (x ∷ c) = ap (λ (rest : Coordinate). x ∷ rest) (uncounted_up origins n c)

pub alike_is : (origins : List Origin) (taken : List Coordinate) (c : Coordinate) → alike_so_far (counted_places origins 0) taken c ≡ landed_with origins taken (uncounted origins c)
alike_is origins taken c = λ i. length (filter (λ t. is_eq (row_major (uncounted_is origins 0 t i) (uncounted_is origins 0 c i))) taken)

uncounted_empty : (origins : List Origin) → uncounted origins [] ≡ []
uncounted_empty [] = refl
uncounted_empty (o ∷ origins) = refl

pub none_left : (old : List ℤ) (origins : List Origin) (at : Coordinate) → length at < 1 → old ≡ old ++ uncounted origins at
none_left old origins [] few = sym (append-nil old) ∙ ap (λ (rest : List ℤ). old ++ rest) (sym (uncounted_empty origins))
none_left old origins (x ∷ at) few = absurd (omega (arith, few))

pub none_between : (low high : Coordinate) (places : List Place) (n : ℕ) (at : Coordinate) → length places < 1 → length at ≡ length places → 1 ≤ length low
    → false ≡ is_between low high (counted_up (map origin places) n at)
none_between low high (place ∷ places) n at few each some = absurd (omega (arith, few))
none_between low high [] n (x ∷ at) few each some = absurd (omega (arith, each))
none_between [] high [] n [] few each some = absurd (omega (arith, some))
none_between (l ∷ low) [] [] n [] few each some = refl
none_between (l ∷ low) (h ∷ high) [] n [] few each some = refl

-- ---- one count more

pub is_equal : (o : Ordering) → is_eq o ≡ true → o ≡ Equal
is_equal Less e = cc
is_equal Equal e = refl
is_equal Greater e = cc

pub counts_each : (origins : List Origin) (taken : List Coordinate) (counts new : BTreeMap (ArrayVec ℤ) ℕ) (key : ArrayVec ℤ) (n : ℕ) (at : Coordinate)
    → ((q : ArrayVec ℤ) → unwrap_or (tree.get by_numbers counts q) 0 ≡ landed_with origins taken q.items) → Updates by_numbers counts new key (Some (n + 1))
    → n ≡ landed_with origins taken key.items → uncounted origins at ≡ key.items
    → (q : ArrayVec ℤ) → unwrap_or (tree.get by_numbers new q) 0 ≡ landed_with origins (at ∷ taken) q.items
counts_each origins taken counts new key n at each update number same q =
    ap (λ (o : Option ℕ). unwrap_or o 0) (update.0 q)
    ∙ branch (is_eq (row_major key.items q.items)) refl
    ∙ (λ i. length (cond (is_eq (row_major (sym same i) q.items)) (at ∷ those) those))
  where
    those : List Coordinate
    those = filter (λ t. is_eq (row_major (uncounted origins t) q.items)) taken

    branch : (t : Bool) → is_eq (row_major key.items q.items) ≡ t → unwrap_or (cond t (Some (n + 1)) (tree.get by_numbers counts q)) 0 ≡ length (cond t (at ∷ those) those)
    branch true e =
        let here : n ≡ length those = number ∙ ap (landed_with origins taken) (row_major_exact key.items q.items (is_equal (row_major key.items q.items) e)) in
        omega (arith, here)
    branch false e = each q

-- ---- targets that were taken before

pub uncounted_none : (origins : List Origin) (c : Coordinate) → has_counted origins ≡ false → length c ≡ length origins → uncounted origins c ≡ c
uncounted_none [] c h l = refl
uncounted_none (o ∷ origins) [] h l = refl
uncounted_none (counted lo ∷ origins) (x ∷ c) h l = cc
uncounted_none (from_dimension place ∷ origins) (x ∷ c) h l = ap (λ (rest : Coordinate). x ∷ rest) (uncounted_none origins c h (omega (arith, l)))
uncounted_none (from_attribute place ∷ origins) (x ∷ c) h l = ap (λ (rest : Coordinate). x ∷ rest) (uncounted_none origins c h (omega (arith, l)))

pub same_number : (origins : List Origin) (a b : Coordinate) (n m : ℕ) → has_counted origins ≡ true → length a ≡ length origins → length b ≡ length origins → HasLows origins a → HasLows origins b
    → counted_up origins n a ≡ counted_up origins m b → n ≡ m
same_number [] a b n m h la lb lows lows' e = cc
same_number (o ∷ origins) [] b n m h la lb lows lows' e = absurd (omega (arith, la))
same_number (o ∷ origins) (x ∷ a) [] n m h la lb lows lows' e = absurd (omega (arith, lb))
same_number (counted lo ∷ origins) (x ∷ a) (y ∷ b) n m h la lb lows lows' e =
    let heads : (x +ℤ pos n) ≡ (y +ℤ pos m) = cc (e) in
    let firsts : x ≡ lo = lows.0 in
    let seconds : y ≡ lo = lows'.0 in
    omega (arith, ints, heads, firsts, seconds)
same_number (from_dimension place ∷ origins) (x ∷ a) (y ∷ b) n m h la lb lows lows' e =
    same_number origins a b n m h (omega (arith, la)) (omega (arith, lb)) lows lows' (cc (e))
same_number (from_attribute place ∷ origins) (x ∷ a) (y ∷ b) n m h la lb lows lows' e =
    same_number origins a b n m h (omega (arith, la)) (omega (arith, lb)) lows lows' (cc (e))
