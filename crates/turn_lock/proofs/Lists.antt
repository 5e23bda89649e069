-- Lists read by place, totals over them, and whose their entries are.
use Rattle.std.proofs.Common.{◌≡◌, ◌≢◌, ℕ, zero, suc, ◌+◌, ◌<◌, ◌≤◌, ◌⊎◌, inl, inr, ⊎_elim, Bool, true, false, not, ◌&&◌, List, [], ◌∷◌, ◌++◌, map, length, set, sym, refl, ap, subst, ◌∙◌, arith, Option, Some, None, append_assoc, append-nil, ne_eqb, true-eqb, false-eqb, lt-ltb, ltb-true}
use mathlib.Core.Option.{some, some-injective, some-ne-none}
use lib.ListN.{get_elem?}
use Rattle.turn_lock.specs.Owners.{is_owned_by, is_open_to, is_owned_below, none_of, only_of, AreOwnedBelow, ExtendsByOthers, ExtendsByOwn}
use Rattle.turn_lock.specs.declared.turns.view.Claim.{Claim}
use Rattle.turn_lock.specs.Inner.Views.{claim, new_claims}
use Rattle.turn_lock.specs.Rule.{total}

module _ {A : Type 0} where
  -- a place that has an item can be written
  pub set_at : (l : List A) (i : ℕ) (a b : A) → get_elem? l i ≡ some a → get_elem? (set l i b) i ≡ some b
  set_at [] i a b e = absurd (some-ne-none a (sym e))
  set_at (x ∷ xs) zero a b e = refl
  set_at (x ∷ xs) (suc i) a b e = set_at xs i a b e

  pub total_set : (f : A → ℕ) (l : List A) (i : ℕ) (a b : A) → get_elem? l i ≡ some a → total f (set l i b) + f a ≡ total f l + f b
  total_set f [] i a b e = absurd (some-ne-none a (sym e))
  total_set f (x ∷ xs) zero a b e = let same : f x ≡ f a = ap f (some-injective x a e) in let t : ℕ = total f xs in let fx : ℕ = f x in let fa : ℕ = f a in let fb : ℕ = f b in let g : fb + t + fa ≡ fx + t + fb = omega arith in g
  total_set f (x ∷ xs) (suc i) a b e = let h = total_set f xs i a b e in let t : ℕ = total f xs in let t' : ℕ = total f (set xs i b) in let h' : t' + f a ≡ t + f b = h in let g : f x + t' + f a ≡ f x + t + f b = omega arith in g

  pub total_le : (f g : A → ℕ) (l : List A) → ((i : ℕ) (a : A) → get_elem? l i ≡ some a → f a ≤ g a) → total f l ≤ total g l
  total_le f g [] h = omega arith
  total_le f g (x ∷ xs) h = let a : f x ≤ g x = h zero x refl in let b : total f xs ≤ total g xs = total_le f g xs (λ i. h (suc i)) in omega arith

  -- an item of a mapped list comes from an item
  pub at_mapped : {B : Type 0} (f : A → B) (l : List A) (i : ℕ) (b : B) → get_elem? (map f l) i ≡ some b → (a : A) × (get_elem? l i ≡ some a) × (f a ≡ b)
  at_mapped f [] i b e = absurd (some-ne-none b (sym e))
  at_mapped f (x ∷ xs) zero b e = (x, refl, some-injective (f x) b e)
  at_mapped f (x ∷ xs) (suc i) b e = at_mapped f xs i b e

-- what is closed to one seat and open to another
other_owner : (o : Option ℕ) (k j : ℕ) → j ≢ k → is_open_to o k ≡ true → not (is_owned_by o j) ≡ true
other_owner None k j ne is = refl
other_owner (Some m) k j ne is = let same : m ≡ k = true-eqb m k (sym is) in ap not (ne_eqb m j (λ e. ne (sym e ∙ same)))

-- what is open to a seat is owned below any number above that seat's
open_below : (o : Option ℕ) (k n : ℕ) → k < n → is_open_to o k ≡ true → is_owned_below o n ≡ true
open_below None k n lt is = refl
open_below (Some m) k n lt is = let same : m ≡ k = true-eqb m k (sym is) in lt-ltb m n (omega arith)

is_false : (b : Bool) → not b ≡ true → false ≡ b
is_false true e = cc
is_false false e = refl

-- what is owned below a number, and not by the seat right before it
below_less : (o : Option ℕ) (n : ℕ) → is_owned_below o (n + 1) ≡ true → not (is_owned_by o n) ≡ true → is_owned_below o n ≡ true
below_less None n is other = refl
below_less (Some m) n is other = let below : m < n + 1 = ltb-true m (n + 1) is in let ne : m ≢ n = false-eqb m n (is_false _ other) in lt-ltb m n (omega arith)

and_left : (a b : Bool) → a && b ≡ true → a ≡ true
and_left true b e = refl
and_left false b e = cc

and_right : (a b : Bool) → a && b ≡ true → b ≡ true
and_right true b e = e
and_right false b e = cc

both : (a b : Bool) → a ≡ true → b ≡ true → a && b ≡ true
both a b e f = cc

module _ {E : Type 0} (owner : E → Option ℕ) where
  pub others_none : (k j : ℕ) (es : List E) → j ≢ k → only_of owner k es ≡ true → none_of owner j es ≡ true
  others_none k j [] ne is = refl
  others_none k j (e ∷ es) ne is = both _ _ (other_owner (owner e) k j ne (and_left _ _ is)) (others_none k j es ne (and_right (is_open_to (owner e) k) _ is))

  pub none_append : (k : ℕ) (xs ys : List E) → none_of owner k xs ≡ true → none_of owner k ys ≡ true → none_of owner k (xs ++ ys) ≡ true
  none_append k [] ys a b = b
  none_append k (x ∷ xs) ys a b = both _ _ (and_left _ _ a) (none_append k xs ys (and_right (not (is_owned_by (owner x) k)) _ a) b)

  pub own_below : (k n : ℕ) (es : List E) → k < n → only_of owner k es ≡ true → AreOwnedBelow owner n es
  own_below k n [] lt is = refl
  own_below k n (e ∷ es) lt is = both _ _ (open_below (owner e) k n lt (and_left _ _ is)) (own_below k n es lt (and_right (is_open_to (owner e) k) _ is))

  pub below_append : (n : ℕ) (xs ys : List E) → AreOwnedBelow owner n xs → AreOwnedBelow owner n ys → AreOwnedBelow owner n (xs ++ ys)
  below_append n [] ys a b = b
  below_append n (x ∷ xs) ys a b = both _ _ (and_left _ _ a) (below_append n xs ys (and_right (is_owned_below (owner x) n) _ a) b)

  -- where the last seat owns nothing, only those before it do
  pub below_one_less : (n : ℕ) (es : List E) → AreOwnedBelow owner (n + 1) es → none_of owner n es ≡ true → AreOwnedBelow owner n es
  below_one_less n [] is none = refl
  below_one_less n (e ∷ es) is none = both _ _ (below_less (owner e) n (and_left _ _ is) (and_left _ _ none))
      (below_one_less n es (and_right (is_owned_below (owner e) (n + 1)) _ is) (and_right (not (is_owned_by (owner e) n)) _ none))

  -- after a turn of a seat below that number
  pub still_below : (k n : ℕ) (log more : List E) → k < n → AreOwnedBelow owner n log → ExtendsByOwn owner k log more → AreOwnedBelow owner n more
  still_below k n log xs lt old new = subst (AreOwnedBelow owner n) (sym new.1) (below_append n log new.0 old (own_below k n new.0 lt new.2))

  -- what one seat has seen, after another seat's turn
  pub still_extends : (k j : ℕ) (seen log more : List E) → j ≢ k → ExtendsByOthers owner j seen log → ExtendsByOwn owner k log more → ExtendsByOthers owner j seen more
  still_extends k j seen log xs ne old new = (
    old.0 ++ new.0,
    new.1 ∙ ap (λ l. l ++ new.0) old.1 ∙ append_assoc seen old.0 new.0,
    none_append j old.0 new.0 old.2 (others_none k j new.0 ne new.2),
  )

  pub all_seen : (k : ℕ) (seen log : List E) → seen ≡ log → ExtendsByOthers owner k seen log
  all_seen k seen log e = ([], sym e ∙ sym (append-nil seen), refl)

module _ {A : Type 0} where
  pub total_append : (f : A → ℕ) (l m : List A) → total f (l ++ m) ≡ total f l + total f m
  total_append f [] m = omega arith
  total_append f (x ∷ xs) m = let h = total_append f xs m in let a : ℕ = total f (xs ++ m) in let b : ℕ = total f xs in let c : ℕ = total f m in let h' : a ≡ b + c = h in let g : f x + a ≡ f x + b + c = omega arith in g

  total_one : (f : A → ℕ) (l : List A) (j : ℕ) (b : A) → get_elem? l j ≡ some b → f b ≤ total f l
  total_one f [] j b e = absurd (some-ne-none b (sym e))
  total_one f (x ∷ xs) zero b e = let same : f x ≡ f b = ap f (some-injective x b e) in let t : ℕ = total f xs in let g : f b ≤ f x + t = omega arith in g
  total_one f (x ∷ xs) (suc j) b e = let h = total_one f xs j b e in let t : ℕ = total f xs in let h' : f b ≤ t = h in let g : f b ≤ f x + t = omega arith in g

  -- two places of a list
  pub total_two : (f : A → ℕ) (l : List A) (i j : ℕ) (a b : A) → i ≢ j → get_elem? l i ≡ some a → get_elem? l j ≡ some b → f a + f b ≤ total f l
  total_two f [] i j a b ne e d = absurd (some-ne-none a (sym e))
  total_two f (x ∷ xs) zero zero a b ne e d = absurd (ne refl)
  total_two f (x ∷ xs) zero (suc j) a b ne e d = let same : f x ≡ f a = ap f (some-injective x a e) in let h : f b ≤ total f xs = total_one f xs j b d in let t : ℕ = total f xs in let g : f a + f b ≤ f x + t = omega arith in g
  total_two f (x ∷ xs) (suc i) zero a b ne e d = let same : f x ≡ f b = ap f (some-injective x b d) in let h : f a ≤ total f xs = total_one f xs i a e in let t : ℕ = total f xs in let g : f a + f b ≤ f x + t = omega arith in g
  total_two f (x ∷ xs) (suc i) (suc j) a b ne e d = let h = total_two f xs i j a b (λ s. ne (ap suc s)) e d in let t : ℕ = total f xs in let h' : f a + f b ≤ t = h in let g : f a + f b ≤ f x + t = omega arith in g

  -- an item of a list with one more at its end
  pub at_end : (l : List A) (a b : A) (j : ℕ) → get_elem? (l ++ a ∷ []) j ≡ some b → (get_elem? l j ≡ some b) ⊎ ((j ≡ length l) × (a ≡ b))
  at_end [] a b zero e = inr (refl, some-injective a b e)
  at_end [] a b (suc j) e = absurd (some-ne-none b (sym e))
  at_end (x ∷ xs) a b zero e = inl e
  at_end (x ∷ xs) a b (suc j) e = ⊎_elim (λ h. inl h) (λ h. inr (ap suc h.0, h.1)) (at_end xs a b j e)

  -- an item of two lists, one after the other
  pub at_either : (l m : List A) (j : ℕ) (b : A) → get_elem? (l ++ m) j ≡ some b → ((i : ℕ) × (get_elem? l i ≡ some b)) ⊎ ((i : ℕ) × (get_elem? m i ≡ some b))
  at_either [] m j b e = inr (j, e)
  at_either (x ∷ xs) m zero b e = inl (zero, e)
  at_either (x ∷ xs) m (suc j) b e = ⊎_elim (λ h. inl (suc h.0, h.1)) (λ h. inr h) (at_either xs m j b e)

pub length-new_claims : (E : Type 0) (k n : ℕ) → length (new_claims {E = E} k n) ≡ n
length-new_claims E k zero = refl
length-new_claims E k (suc n) = ap suc (length-new_claims E (suc k) n)

module _ {E : Type 0} where
  -- the claims are numbered in order
  pub new_claim_at : (k n i : ℕ) (c : Claim E) → get_elem? (new_claims k n) i ≡ some c → (c.number ≡ k + i) × (c.seen ≡ [])
  new_claim_at k zero i c e = absurd (some-ne-none c (sym e))
  new_claim_at k (suc n) zero c e = let same = sym (some-injective (claim k []) c e) in (ap (λ (d : Claim E). d.number) same ∙ (let g : k ≡ k + 0 = omega arith in g), ap (λ (d : Claim E). d.seen) same)
  new_claim_at k (suc n) (suc i) c e = let h = new_claim_at (suc k) n i c e in (h.0 ∙ (let g : suc k + i ≡ k + suc i = omega arith in g), h.1)

  pub new_claim_below : (k n i : ℕ) (c : Claim E) → get_elem? (new_claims k n) i ≡ some c → c.number < k + n
  new_claim_below k zero i c e = absurd (some-ne-none c (sym e))
  new_claim_below k (suc n) zero c e = let m : ℕ = c.number in let same : k ≡ m = ap (λ (d : Claim E). d.number) (some-injective (claim k []) c e) in
      let g : m < k + suc n = omega arith in g
  new_claim_below k (suc n) (suc i) c e = let m : ℕ = c.number in let h : m < suc k + n = new_claim_below (suc k) n i c e in let g : m < k + suc n = omega arith in g
