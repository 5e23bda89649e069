-- The next number of a box of chunk numbers.
use Rattle.std.proofs.Common.{◌≡◌, ℕ, zero, suc, ◌+◌, ◌-◌, ◌<◌, ◌≤◌, Bool, true, false, cond, ◌&&◌, List, [], ◌∷◌, length, slice_index_or, take, drop, refl, sym, ap, ◌∙◌, arith}
use Rattle.std.specs.List.{AllByRecursion}
use Rattle.std.specs.Prelude.{nat_le, nat_lt}
use Rattle.std.specs.Ordering.{is_lt, nat_cmp, ordering_then, ordering_reverse}
use Rattle.std.specs.declared.cmp.Ordering.{Ordering}
use Rattle.std.specs.declared.cmp.Ordering.TheVariants.{Less, Equal, Greater}
use Rattle.std.proofs.lemmas.Cmp.{ranked}
use Rattle.std.proofs.lemmas.List.{take_all}
use Rattle.arrayvec.specs.ArrayVec.{ArrayVec}
use Rattle.array_geom.specs.Geometry.{ChunkNumber}
use Rattle.array_geom.specs.Link.{number_order}
use Rattle.array_geom.proofs.TestLaws.{and_parts}
use Rattle.chunk_cells.specs.Inner.Near.{lies_between, next_between}
use Rattle.chunk_cells.specs.Inner.Numbers.{numbers_in, AreBefore}
use Rattle.chunk_cells.proofs.NearLaws.{then_not_less, not_below, not_above}
use Rattle.chunk_cells.proofs.NumberLaws.{number_order_total, is_less}

true_is_not_false : true ≡ false → ⊥
true_is_not_false e = cc

rest_whole : (xs : List ℕ) → take (length xs - 1) (drop 1 xs) ≡ drop 1 xs
rest_whole [] = refl
rest_whole (x ∷ xs) = take_all (length (x ∷ xs) - 1) xs (omega arith)

-- a number that isn't after another, though its rest is, has a lower first number
pub lower_first : (high k : ChunkNumber) → 1 ≤ length high → 1 ≤ length k → is_lt (number_order high k) ≡ false → is_lt (number_order (take (length high - 1) (drop 1 high)) (take (length k - 1) (drop 1 k))) ≡ true → slice_index_or k 0 0 < slice_index_or high 0 0
lower_first high k p q f t =
    rests high k p q f
    (ap (λ (a : ChunkNumber). is_lt (number_order a (drop 1 k))) (sym (rest_whole high))
    ∙ ap (λ (a : ChunkNumber). is_lt (number_order (take (length high - 1) (drop 1 high)) a)) (sym (rest_whole k)) ∙ t)
  where
    rests : (high k : ChunkNumber) → 1 ≤ length high → 1 ≤ length k → is_lt (number_order high k) ≡ false → is_lt (number_order (drop 1 high) (drop 1 k)) ≡ true → slice_index_or k 0 0 < slice_index_or high 0 0
    rests [] k p q f t = absurd (omega arith)
    rests (h ∷ high) [] p q f t = absurd (omega arith)
    rests (h ∷ high) (k ∷ ks) p q f t = cases (nat_cmp h k) refl f
      where
        cases : (o : Ordering) → nat_cmp h k ≡ o → is_lt (ordering_then o (number_order high ks)) ≡ false → k < h
        cases Greater e f = ranked h k Greater (sym e)
        cases Equal e f = absurd (true_is_not_false (sym t ∙ f))
        cases Less e f = absurd (true_is_not_false f)

-- a number of the box that doesn't come before another is no proof that this is past the box
between_not_past : (high n ks : ChunkNumber) → is_lt (number_order high n) ≡ false → is_lt (number_order n ks) ≡ false → is_lt (number_order high ks) ≡ true → ⊥
between_not_past high n ks a b t = cases (number_order n ks) refl
  where
    l : number_order high ks ≡ Less
    l = is_less (number_order high ks) t

    less_is : number_order high n ≡ Less → ⊥
    less_is e = true_is_not_false (sym (ap is_lt e) ∙ a)

    cases : (o : Ordering) → number_order n ks ≡ o → ⊥
    cases Less e = true_is_not_false (sym (ap is_lt e) ∙ b)
    cases Greater e = less_is (number_order_total.trans high ks n l (number_order_total.antisymm ks n ∙ ap ordering_reverse e))
    cases Equal e = less_is (number_order_total.antisymm high n ∙ ap ordering_reverse (number_order_total.congr n ks high e) ∙ sym (number_order_total.antisymm high ks) ∙ l)

-- a number of the box that doesn't come before another doesn't come before the box's next number from that one on
pub not_before_next : (low high k n : ChunkNumber) → lies_between low high n ≡ true → is_lt (number_order n k) ≡ false → is_lt (number_order n (next_between low high k)) ≡ false
not_before_next [] [] k [] b f = refl
not_before_next [] [] k (p ∷ n) b f = cc
not_before_next [] (h ∷ high) k n b f = cc
not_before_next (l ∷ low) [] k n b f = cc
not_before_next (l ∷ low) (h ∷ high) k [] b f = cc
not_before_next (l ∷ low) (h ∷ high) [] (p ∷ n) b f = refl
not_before_next (l ∷ low) (h ∷ high) (k ∷ ks) (p ∷ n) b f =
    let t = and_parts (nat_le l p && nat_le p h) (lies_between low high n) b in
    below (nat_lt k l) t.1 (not_before_next low high ks n t.1)
  where
    goes_on : (o : Ordering) → (is_lt (number_order n ks) ≡ false → is_lt (number_order n (next_between low high ks)) ≡ false) → is_lt (ordering_then o (number_order n ks)) ≡ false → is_lt (ordering_then o (number_order n (next_between low high ks))) ≡ false
    goes_on Greater more f = refl
    goes_on Equal more f = more f
    goes_on Less more f = f

    steps : (o : Ordering) → nat_cmp p k ≡ o → is_lt (ordering_then o (number_order n ks)) ≡ false → lies_between low high n ≡ true → is_lt (number_order high ks) ≡ true → is_lt (number_order (p ∷ n) ((k + 1) ∷ low)) ≡ false
    steps Greater e f t past = let g : k < p = ranked p k Greater (sym e) in then_not_less p (k + 1) (number_order n low) (omega arith) (not_below low high n t)
    steps Equal e f t past = absurd (between_not_past high n ks (not_above low high n t) f past)
    steps Less e f t past = absurd (true_is_not_false f)

    past : (c : Bool) → is_lt (number_order high ks) ≡ c → lies_between low high n ≡ true → (is_lt (number_order n ks) ≡ false → is_lt (number_order n (next_between low high ks)) ≡ false) → is_lt (number_order (p ∷ n) (cond c ((k + 1) ∷ low) (k ∷ next_between low high ks))) ≡ false
    past true e t more = steps (nat_cmp p k) refl f t e
    past false e t more = goes_on (nat_cmp p k) more f

    below : (c : Bool) → lies_between low high n ≡ true → (is_lt (number_order n ks) ≡ false → is_lt (number_order n (next_between low high ks)) ≡ false) → is_lt (number_order (p ∷ n) (cond c (l ∷ low) (cond (is_lt (number_order high ks)) ((k + 1) ∷ low) (k ∷ next_between low high ks)))) ≡ false
    below true t more = not_below (l ∷ low) (h ∷ high) (p ∷ n) b
    below false t more = past (is_lt (number_order high ks)) refl t more

-- a later number that comes before the box's next number lies not in the box
skipped : (low high k n : ChunkNumber) → number_order k n ≡ Less → number_order n (next_between low high k) ≡ Less → lies_between low high n ≡ false
skipped low high k n l m = cases (lies_between low high n) refl
  where
    later : is_lt (number_order n k) ≡ false
    later = ap is_lt (number_order_total.antisymm n k ∙ ap ordering_reverse l)

    cases : (t : Bool) → lies_between low high n ≡ t → t ≡ false
    cases false e = refl
    cases true e = absurd (true_is_not_false (sym (ap is_lt m) ∙ not_before_next low high k n e later))

pub all_skipped : (low high k : ChunkNumber) (c : ℕ) (later : List (ArrayVec ℕ)) → AllByRecursion (λ n. number_order k n ≡ Less) (numbers_in later) → AreBefore (next_between low high k) (take c later) → AllByRecursion (λ n. lies_between low high n.items ≡ false) (take c later)
all_skipped low high k zero later a b = tt
all_skipped low high k (suc c) [] a b = tt
all_skipped low high k (suc c) (n ∷ later) a b = (skipped low high k n.items a.0 b.0, all_skipped low high k c later a.1 b.1)
