-- Numbers of chunks, sorted and each of them once.
use Rattle.std.proofs.Common.{◌≡◌, ℕ, Bool, true, false, cond, ◌||◌, List, [], ◌∷◌, length, refl, sym, ap, ◌∙◌, subst}
use Rattle.std.specs.Cmp.{IsTotalOrder, unsigned_ties}
use Rattle.std.specs.Cmp.Lexicographic.{lists_ties, pointwise}
use Rattle.std.specs.List.{AllByRecursion, dedup, dedup_from, list_any}
use Rattle.std.specs.List.Sorted.{IsPermutation, IsSorted, IsStrictlySortedBy}
use Rattle.std.specs.Ordering.{is_eq, nat_cmp, eq_by_cmp}
use Rattle.std.specs.Prelude.{◌==◌, Result, Ok, Err, IfOk}
use Rattle.std.specs.declared.cmp.Ordering.{Ordering}
use Rattle.std.specs.declared.cmp.Ordering.TheVariants.{Less}
use Rattle.std.proofs.lemmas.Cmp.{on_total, tied_itself}
use Rattle.std.proofs.lemmas.List.Kept.{IsStrictlySortedBy-dedup}
use Rattle.std.proofs.lemmas.List.Sorted.{list_any-IsPermutation}
use Rattle.cell_values.specs.declared.datum.Row.{Row}
use Rattle.cell_values.specs.declared.memory.Memory.{Memory}
use Rattle.cell_values.specs.declared.schema.Dimension.{Dimension}
use Rattle.arrayvec.specs.ArrayVec.{ArrayVec}
use Rattle.array_geom.specs.Geometry.{ChunkNumber}
use Rattle.array_geom.specs.Link.{number_order, NumbersRise, is_listed}
use Rattle.array_geom.proofs.NumberLaws.{same_number, is_equal}
use Rattle.chunk_cells.specs.Inner.Numbers.{numbers_in, AreCoresOf, NameCores}
use Rattle.chunk_cells.proofs.NumberLaws.{number_order_total, absorbed}

abbrev pub order : ArrayVec ℕ → ArrayVec ℕ → Ordering
order v w = number_order v.items w.items

abbrev pub is_same : ArrayVec ℕ → ArrayVec ℕ → Bool
is_same v w = pointwise (λ (x y : ℕ). x == y) v.items w.items

order_total : IsTotalOrder order
order_total = on_total (λ (v : ArrayVec ℕ). v.items) number_order_total

same_ties : (v w : ArrayVec ℕ) → is_same v w ≡ eq_by_cmp order v w
same_ties v w = lists_ties nat_cmp unsigned_ties v.items w.items

rises : (xs : List (ArrayVec ℕ)) → IsStrictlySortedBy order xs → NumbersRise (numbers_in xs)
unfolding IsStrictlySortedBy
rises [] s = tt
rises (x ∷ xs) s = (later xs s.0, rises xs s.1)
  where
    later : (ys : List (ArrayVec ℕ)) → AllByRecursion (λ y. order x y ≡ Less) ys → AllByRecursion (λ n. number_order x.items n ≡ Less) (numbers_in ys)
    later [] a = tt
    later (y ∷ ys) a = (a.0, later ys a.1)

pub sorted_rises : (xs : List (ArrayVec ℕ)) → IsSorted order xs → NumbersRise (numbers_in (dedup is_same xs))
sorted_rises xs s = rises (dedup is_same xs) (IsStrictlySortedBy-dedup order_total same_ties xs s)

-- a test that answers alike at what is dropped answers alike at the rest
any_deduped : {X : Type 0} (E : X → X → Bool) (p : X → Bool) → ((x y : X) → E x y ≡ true → p x ≡ p y) → (x : X) (xs : List X) → list_any p (dedup_from E x xs) ≡ list_any p (x ∷ xs)
any_deduped E p alike x [] = refl
any_deduped E p alike x (y ∷ ys) = cases (E y x) refl (any_deduped E p alike x ys) (any_deduped E p alike y ys)
  where
    cases : (t : Bool) → E y x ≡ t → list_any p (dedup_from E x ys) ≡ list_any p (x ∷ ys) → list_any p (dedup_from E y ys) ≡ list_any p (y ∷ ys) → list_any p (cond t (dedup_from E x ys) (x ∷ dedup_from E y ys)) ≡ list_any p (x ∷ y ∷ ys)
    cases true e dropped kept = dropped ∙ absorbed (p x) (list_any p ys) ∙ ap (λ (b : Bool). p x || (b || list_any p ys)) (sym (alike y x e))
    cases false e dropped kept = ap (λ (b : Bool). p x || b) kept

abbrev is_number : ChunkNumber → ArrayVec ℕ → Bool
is_number k v = is_eq (number_order v.items k)

listed_any : (k : ChunkNumber) (xs : List (ArrayVec ℕ)) → is_listed k (numbers_in xs) ≡ list_any (is_number k) xs
listed_any k [] = refl
listed_any k (x ∷ xs) = ap (λ (b : Bool). is_number k x || b) (listed_any k xs)

deduped_listed : (k : ChunkNumber) (xs : List (ArrayVec ℕ)) → list_any (is_number k) (dedup is_same xs) ≡ list_any (is_number k) xs
deduped_listed k [] = refl
deduped_listed k (x ∷ xs) = any_deduped is_same (is_number k) alike x xs
  where
    alike : (v w : ArrayVec ℕ) → is_same v w ≡ true → is_number k v ≡ is_number k w
    alike v w e = ap (λ (n : ChunkNumber). is_eq (number_order n k)) (same_number v.items w.items (is_equal (number_order v.items w.items) (sym (same_ties v w) ∙ e)))

pub sorted_listed : (k : ChunkNumber) (found sorted : List (ArrayVec ℕ)) → IsPermutation found sorted → is_listed k (numbers_in (dedup is_same sorted)) ≡ is_listed k (numbers_in found)
sorted_listed k found sorted moved =
    listed_any k (dedup is_same sorted)
    ∙ deduped_listed k sorted
    ∙ sym (list_any-IsPermutation (is_number k) found sorted moved)
    ∙ sym (listed_any k found)

or_right : (p q : Bool) → q ≡ true → (p || q) ≡ true
or_right true q e = refl
or_right false q e = e

or_left : (p q : Bool) → p ≡ true → (p || q) ≡ true
or_left true q e = refl
or_left false q e = cc

pub all_listed : (P : ChunkNumber → Type 0) (ks : List ChunkNumber) → ((k : ChunkNumber) → is_listed k ks ≡ true → P k) → AllByRecursion P ks
all_listed P [] f = tt
all_listed P (k ∷ ks) f = (f k (or_left (is_eq (number_order k k)) (is_listed k ks) (ap is_eq (tied_itself number_order_total k))), all_listed P ks (λ j e. f j (or_right (is_eq (number_order k j)) (is_listed j ks) e)))

listed_holds : (P : ChunkNumber → Type 0) (ks : List ChunkNumber) (k : ChunkNumber) → AllByRecursion P ks → is_listed k ks ≡ true → P k
listed_holds P [] k a e = cc
listed_holds P (n ∷ ks) k a e = cases (is_eq (number_order n k)) refl e (listed_holds P ks k a.1)
  where
    cases : (t : Bool) → is_eq (number_order n k) ≡ t → (t || is_listed k ks) ≡ true → (is_listed k ks ≡ true → P k) → P k
    cases true f e more = subst P (same_number n k (is_equal (number_order n k) f)) a.0
    cases false f e more = more e

pub cores_in_order : (dims : List Dimension) (rows : List Row) (found : List (ArrayVec ℕ)) (result : Result (List (ArrayVec ℕ)) Memory) → NameCores dims rows found → IfOk result (λ listed. NumbersRise (numbers_in listed))
    → IfOk result (λ listed. (k : ChunkNumber) → is_listed k (numbers_in listed) ≡ is_listed k (numbers_in found)) → IfOk result (λ listed. AreCoresOf dims rows listed)
cores_in_order dims rows found (Ok listed) are rise same = record {
  in_order = rise;
  named = record {
    sized = all_listed (λ (k : ChunkNumber). length k ≡ length dims) (numbers_in listed) (λ k e. listed_holds (λ (n : ChunkNumber). length n ≡ length dims) (numbers_in found) k are.sized (sym (same k) ∙ e));
    cores = λ k l. same k ∙ are.cores k l;
  };
}
cores_in_order dims rows found (Err memory) are rise same = tt
