-- The list of the numbers of all chunks: in order, and each of them once.
use Rattle.std.proofs.Common.{◌≡◌, ℕ, zero, suc, ◌+◌, ◌<◌, ◌≤◌, Bool, true, false, ◌||◌, List, [], ◌∷◌, ◌++◌, map, refl, sym, ap, ◌∙◌, subst, arith, append_assoc}
use Rattle.std.specs.Prelude.{nat_lt}
use Rattle.std.specs.List.{AllByRecursion, flat_map}
use Rattle.std.specs.Ordering.{nat_cmp, is_eq, ordering_then}
use Rattle.std.specs.declared.cmp.Ordering.TheVariants.{Less, Equal}
use Rattle.std.proofs.lemmas.List.{append-nil, map-append}
use Rattle.std.proofs.lemmas.Grind.{flat_map-append}
use Rattle.array_geom.specs.Geometry.{ChunkNumber}
use Rattle.array_geom.specs.Link.{NumbersRise, is_listed, number_order}
use Rattle.logical_plan.proofs.BuiltRows.{all-append, all-map, all-flat_map, all-follows, all-each}
use Rattle.exec_cellwise.specs.Inner.Walks.{below, numbers_to, numbers_under}

-- ---- the walk gives the list

abbrev onto : ChunkNumber → List ChunkNumber → List ChunkNumber
onto at ks = map (λ k. at ++ k) ks

under_one : (at : ChunkNumber) (x : ℕ) (ks : List ChunkNumber) → onto (at ++ x ∷ []) ks ≡ onto at (map (λ k. x ∷ k) ks)
under_one at x [] = refl
under_one at x (k ∷ ks) = ap (λ d. d ∷ onto (at ++ x ∷ []) ks) (append_assoc at (x ∷ []) k) ∙ ap (λ l. (at ++ x ∷ k) ∷ l) (under_one at x ks)

under_all : (at : ChunkNumber) (f : ℕ → List ChunkNumber) (ks : List ChunkNumber) (xs : List ℕ) → ((x : ℕ) → f x ≡ onto (at ++ x ∷ []) ks) → flat_map f xs ≡ onto at (flat_map (λ x. map (λ k. x ∷ k) ks) xs)
under_all at f ks [] h = refl
under_all at f ks (x ∷ xs) h =
    ap (λ l. l ++ flat_map f xs) (h x ∙ under_one at x ks) ∙ ap (λ l. onto at (map (λ k. x ∷ k) ks) ++ l) (under_all at f ks xs h)
    ∙ sym (map-append (λ k. at ++ k) (map (λ k. x ∷ k) ks) (flat_map (λ y. map (λ k. y ∷ k) ks) xs))

under_is : (at : ChunkNumber) (last : List ℕ) → numbers_under at last ≡ onto at (numbers_to last)
under_is at [] = ap (λ k. k ∷ []) (sym (append-nil at))
under_is at (n ∷ last) = under_all at (λ x. numbers_under (at ++ x ∷ []) last) (numbers_to last) (below (n + 1)) (λ x. under_is (at ++ x ∷ []) last)

same_again : (ks : List ChunkNumber) → onto [] ks ≡ ks
same_again [] = refl
same_again (k ∷ ks) = ap (λ l. k ∷ l) (same_again ks)

pub all_under : (last : List ℕ) → numbers_under [] last ≡ numbers_to last
all_under last = under_is [] last ∙ same_again (numbers_to last)

-- one more number along a first dimension
pub grown : (f : ℕ → List ChunkNumber) (n : ℕ) (old rows now : List ChunkNumber) → rows ≡ old ++ flat_map f (below n) → now ≡ rows ++ f n → now ≡ old ++ flat_map f (below (n + 1))
grown f n old rows now p q =
    let next : suc n ≡ n + 1 = omega arith in
    q ∙ ap (λ l. l ++ f n) p ∙ append_assoc old (flat_map f (below n)) (f n)
    ∙ ap (λ l. old ++ (flat_map f (below n) ++ l)) (sym (append-nil (f n)))
    ∙ ap (λ l. old ++ l) (sym (flat_map-append f (below n) (n ∷ [])))
    ∙ ap (λ (k : ℕ). old ++ flat_map f (below k)) next

-- ---- the list rises

all_below : (n : ℕ) → AllByRecursion (λ k. k < n) (below n)
all_below zero = tt
all_below (suc n) = all-append (λ k. k < suc n) (below n) (n ∷ []) (all-follows (λ k. k < n) (λ k. k < suc n) (λ k l. omega (arith, l)) (below n) (all_below n)) (omega arith, tt)

append_rises : (a b : List ChunkNumber) → NumbersRise a → NumbersRise b → AllByRecursion (λ k. AllByRecursion (λ d. number_order k d ≡ Less) b) a → NumbersRise (a ++ b)
append_rises [] b ra rb h = rb
append_rises (k ∷ a) b ra rb h = (all-append (λ d. number_order k d ≡ Less) a b ra.0 h.0, append_rises a b ra.1 rb h.1)

self : (x : ℕ) → nat_cmp x x ≡ Equal
self x = grind arith

lesser : (x y : ℕ) → x < y → nat_cmp x y ≡ Less
lesser x y h = grind (arith, h)

same_first : (x : ℕ) (c d : ChunkNumber) → number_order c d ≡ Less → number_order (x ∷ c) (x ∷ d) ≡ Less
same_first x c d l = ap (λ o. ordering_then o (number_order c d)) (self x) ∙ l

less_first : (x y : ℕ) (c d : ChunkNumber) → x < y → number_order (x ∷ c) (y ∷ d) ≡ Less
less_first x y c d l = ap (λ o. ordering_then o (number_order c d)) (lesser x y l)

map_rises : (x : ℕ) (ks : List ChunkNumber) → NumbersRise ks → NumbersRise (map (λ k. x ∷ k) ks)
map_rises x [] r = tt
map_rises x (k ∷ ks) r =
    (all-map (λ d. number_order (x ∷ k) d ≡ Less) (λ d. x ∷ d) ks (all-follows (λ d. number_order k d ≡ Less) (λ d. number_order (x ∷ k) (x ∷ d) ≡ Less) (λ d l. same_first x k d l) ks r.0), map_rises x ks r.1)

abbrev product : List ChunkNumber → List ℕ → List ChunkNumber
product ks xs = flat_map (λ x. map (λ k. x ∷ k) ks) xs

product_rises : (ks : List ChunkNumber) (n : ℕ) → NumbersRise ks → NumbersRise (product ks (below n))
product_rises ks zero r = tt
product_rises ks (suc n) r =
    let last = map (λ k. n ∷ k) ks in
    let shape : product ks (below (suc n)) ≡ product ks (below n) ++ last = flat_map-append (λ x. map (λ k. x ∷ k) ks) (below n) (n ∷ []) ∙ ap (λ l. product ks (below n) ++ l) (append-nil last) in
    subst NumbersRise (sym shape) (append_rises (product ks (below n)) last (product_rises ks n r) (map_rises n ks r)
    (all-flat_map (λ k. AllByRecursion (λ d. number_order k d ≡ Less) last) (λ x. map (λ k. x ∷ k) ks) (below n)
    (all-follows (λ x. x < n) (λ x. AllByRecursion (λ k. AllByRecursion (λ d. number_order k d ≡ Less) last) (map (λ k. x ∷ k) ks))
    (λ x l. all-map (λ k. AllByRecursion (λ d. number_order k d ≡ Less) last) (λ k. x ∷ k) ks
    (all-each (λ k. AllByRecursion (λ d. number_order (x ∷ k) d ≡ Less) last)
    (λ k. all-map (λ d. number_order (x ∷ k) d ≡ Less) (λ d. n ∷ d) ks (all-each (λ d. number_order (x ∷ k) (n ∷ d) ≡ Less) (λ d. less_first x n k d l) ks)) ks))
    (below n) (all_below n))))

pub numbers_rise : (last : List ℕ) → NumbersRise (numbers_to last)
numbers_rise [] = (tt, tt)
numbers_rise (n ∷ last) = product_rises (numbers_to last) (n + 1) (numbers_rise last)

-- ---- which numbers are listed

-- a fact of the first number and one of the rest
pub all_product : (P : ChunkNumber → Type 0) (Q : ℕ → Type 0) (R : ChunkNumber → Type 0) (ks : List ChunkNumber) (xs : List ℕ) → AllByRecursion Q xs → AllByRecursion R ks → ((x : ℕ) (k : ChunkNumber) → Q x → R k → P (x ∷ k)) → AllByRecursion P (product ks xs)
all_product P Q R ks xs a b f =
    all-flat_map P (λ x. map (λ k. x ∷ k) ks) xs
    (all-follows Q (λ x. AllByRecursion P (map (λ k. x ∷ k) ks)) (λ x q. all-map P (λ k. x ∷ k) ks (all-follows R (λ k. P (x ∷ k)) (λ k r. f x k q r) ks b)) xs a)

pub all_to : (n : ℕ) → AllByRecursion (λ k. k ≤ n) (below (n + 1))
all_to n = all-follows (λ k. k < n + 1) (λ k. k ≤ n) (λ k l. omega (arith, l)) (below (n + 1)) (all_below (n + 1))

or_left : (p q : Bool) → p ≡ true → (p || q) ≡ true
or_left true q e = refl
or_left false q e = cc

or_right : (p q : Bool) → q ≡ true → (p || q) ≡ true
or_right true q e = refl
or_right false q e = e

listed_left : (k : ChunkNumber) (a b : List ChunkNumber) → is_listed k a ≡ true → is_listed k (a ++ b) ≡ true
listed_left k [] b e = cc
listed_left k (n ∷ a) b e = cases (is_eq (number_order n k)) e (λ f. listed_left k a b f)
  where
    cases : (t : Bool) → (t || is_listed k a) ≡ true → (is_listed k a ≡ true → is_listed k (a ++ b) ≡ true) → (t || is_listed k (a ++ b)) ≡ true
    cases true f more = refl
    cases false f more = more f

listed_right : (k : ChunkNumber) (a b : List ChunkNumber) → is_listed k b ≡ true → is_listed k (a ++ b) ≡ true
listed_right k [] b e = e
listed_right k (n ∷ a) b e = or_right (is_eq (number_order n k)) (is_listed k (a ++ b)) (listed_right k a b e)

listed_first : (x : ℕ) (k : ChunkNumber) (ks : List ChunkNumber) → is_listed k ks ≡ true → is_listed (x ∷ k) (map (λ d. x ∷ d) ks) ≡ true
listed_first x k [] e = cc
listed_first x k (n ∷ ks) e = cases (is_eq (number_order n k)) refl e (λ f. listed_first x k ks f) (ap (λ o. ordering_then o (number_order n k)) (self x))
  where
    cases : (t : Bool) → is_eq (number_order n k) ≡ t → (t || is_listed k ks) ≡ true → (is_listed k ks ≡ true → is_listed (x ∷ k) (map (λ d. x ∷ d) ks) ≡ true) → number_order (x ∷ n) (x ∷ k) ≡ number_order n k
        → (is_eq (number_order (x ∷ n) (x ∷ k)) || is_listed (x ∷ k) (map (λ d. x ∷ d) ks)) ≡ true
    cases true f g more here = or_left _ _ (ap is_eq here ∙ f)
    cases false f g more here = or_right _ _ (more g)

listed_product : (x : ℕ) (k : ChunkNumber) (ks : List ChunkNumber) (n : ℕ) → x < n → is_listed k ks ≡ true → is_listed (x ∷ k) (product ks (below n)) ≡ true
listed_product x k ks zero l e = absurd (omega (arith, l))
listed_product x k ks (suc n) l e =
    let shape : product ks (below (suc n)) ≡ product ks (below n) ++ map (λ d. n ∷ d) ks = flat_map-append (λ y. map (λ d. y ∷ d) ks) (below n) (n ∷ []) ∙ ap (λ z. product ks (below n) ++ z) (append-nil (map (λ d. n ∷ d) ks)) in
    ap (is_listed (x ∷ k)) shape ∙ cases (nat_lt x n) refl (λ f. listed_product x k ks n f e) (listed_first n k ks e)
  where
    cases : (t : Bool) → nat_lt x n ≡ t → (x < n → is_listed (x ∷ k) (product ks (below n)) ≡ true) → is_listed (n ∷ k) (map (λ d. n ∷ d) ks) ≡ true → is_listed (x ∷ k) (product ks (below n) ++ map (λ d. n ∷ d) ks) ≡ true
    cases true f more last = listed_left (x ∷ k) (product ks (below n)) (map (λ d. n ∷ d) ks) (more (grind (arith, f)))
    cases false f more last =
        let above : n ≤ x = grind (arith, f) in
        let same : x ≡ n = omega (arith, l, above) in
        listed_right (x ∷ k) (product ks (below n)) (map (λ d. n ∷ d) ks) (ap (λ (y : ℕ). is_listed (y ∷ k) (map (λ d. n ∷ d) ks)) same ∙ last)

pub listed_step : (x : ℕ) (k : ChunkNumber) (n : ℕ) (last : List ℕ) → x ≤ n → is_listed k (numbers_to last) ≡ true → is_listed (x ∷ k) (numbers_to (n ∷ last)) ≡ true
listed_step x k n last l e = listed_product x k (numbers_to last) (n + 1) (omega (arith, l)) e
