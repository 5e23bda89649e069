-- Pages one after the other, and what is laid in them.
use Rattle.std.proofs.Common.{◌≡◌, ℕ, zero, suc, ◌+◌, ◌<◌, ◌≤◌, List, [], ◌∷◌, ◌++◌, length, slice_index, refl, ◌∙◌, ap, subst, arith}
use Rattle.std.specs.Prelude.{sum_by}
use Rattle.std.specs.List.{AllByRecursion}
use Rattle.std.proofs.lemmas.List.Sums.{sum_by-cons}
use Rattle.page_chain.specs.Places.{IsNone}
use Rattle.page_chain.specs.Pages.{AreDistinct}
use Rattle.backup_restoring.specs.Inner.Layout.{pages_from, laid, AllLaid}

-- ---- pages

pub length_from : (first n : ℕ) → length (pages_from first n) ≡ n
length_from first zero = refl
length_from first (suc n) = ap suc (length_from (first + 1) n)

pub index_from : (first n k : ℕ) → k < n → slice_index (pages_from first n) k ≡ first + k
index_from first zero k low = absurd (omega (arith, low))
index_from first (suc n) zero low = let e : first ≡ first + 0 = omega arith in e
index_from first (suc n) (suc k) low = let e : first + 1 + k ≡ first + suc k = omega arith in index_from (first + 1) n k (omega (arith, low)) ∙ e

-- a page is none of them where it is below the first one, or behind the last one
pub none_below : (first n p : ℕ) → p < first → IsNone (pages_from first n) p
none_below first n p less k low =
    let long = length_from first n in
    let at = index_from first n k (omega (arith, low, long)) in
    λ same. omega (arith, at, same, less)

pub none_behind : (first n p : ℕ) → first + n ≤ p → IsNone (pages_from first n) p
none_behind first n p more k low =
    let long = length_from first n in
    let inside : k < n = omega (arith, low, long) in
    let at = index_from first n k inside in
    λ same. omega (arith, at, same, more, inside)

pub distinct_from : (first n : ℕ) → AreDistinct (pages_from first n)
distinct_from first n i j less low =
    let long = length_from first n in
    let inside : j < n = omega (arith, low, long) in
    let a = index_from first n i (omega (arith, less, inside)) in
    let b = index_from first n j inside in
    λ same. omega (arith, a, b, same, less)

-- each is at least the first one, and below what comes behind the last one
pub all_from : (P : ℕ → Type 0) (first n last : ℕ) → first + n ≤ last → ((p : ℕ) → first ≤ p → p < last → P p) → AllByRecursion P (pages_from first n)
all_from P first zero last fits each = tt
all_from P first (suc n) last fits each = (each first (omega arith) (omega (arith, fits)), all_from P (first + 1) n last (omega (arith, fits)) (λ p low high. each p (omega (arith, low)) high))

-- one more page
pub from_push : (first n : ℕ) → pages_from first (n + 1) ≡ pages_from first n ++ (first + n) ∷ []
from_push first zero = let e : first ≡ first + 0 = omega arith in ap (λ (p : ℕ). p ∷ []) e
from_push first (suc n) =
    let e : first + 1 + n ≡ first + suc n = omega arith in
    let more : suc n + 1 ≡ suc (n + 1) = omega arith in
    ap (pages_from first) more ∙ ap (λ (ps : List ℕ). first ∷ ps) (from_push (first + 1) n ∙ ap (λ (p : ℕ). pages_from (first + 1) n ++ p ∷ []) e)

-- ---- what is laid

pub laid_push : {A B : Type 0} (size : A → ℕ) (place : ℕ → A → B) (first : ℕ) (xs : List A) (x : A)
    → laid size place first (xs ++ x ∷ []) ≡ laid size place first xs ++ place (first + sum_by size xs) x ∷ []
laid_push {B = B} size place first [] x = let e : first ≡ first + 0 = omega arith in ap (λ (p : ℕ). place p x ∷ []) e
laid_push {B = B} size place first (y ∷ xs) x =
    let s = sum_by-cons size y xs in
    let e : first + size y + sum_by size xs ≡ first + sum_by size (y ∷ xs) = omega (arith, s) in
    ap (λ (zs : List B). place first y ∷ zs) (laid_push size place (first + size y) xs x ∙ ap (λ (p : ℕ). laid size place (first + size y) xs ++ place p x ∷ []) e)

pub all_push : {A : Type 0} (size : A → ℕ) (P : ℕ → A → Type 0) (first : ℕ) (xs : List A) (x : A)
    → AllLaid size P first xs → P (first + sum_by size xs) x → AllLaid size P first (xs ++ x ∷ [])
all_push size P first [] x all last = let e : first + 0 ≡ first = omega arith in (subst (λ (p : ℕ). P p x) e last, tt)
all_push size P first (y ∷ xs) x all last =
    let s = sum_by-cons size y xs in
    let e : first + sum_by size (y ∷ xs) ≡ first + size y + sum_by size xs = omega (arith, s) in
    (all.0, all_push size P (first + size y) xs x all.1 (subst (λ (p : ℕ). P p x) e last))

-- what holds of each goes over to what holds of each, within the pages of all
pub all_over : {A : Type 0} (size : A → ℕ) (P Q : ℕ → A → Type 0) (first last : ℕ) (xs : List A) → first + sum_by size xs ≤ last
    → ((p : ℕ) (x : A) → first ≤ p → p + size x ≤ last → P p x → Q p x) → AllLaid size P first xs → AllLaid size Q first xs
all_over size P Q first last [] fits over all = tt
all_over size P Q first last (x ∷ xs) fits over all =
    let s = sum_by-cons size x xs in (
      over first x (omega arith) (omega (arith, fits, s)) all.0,
      all_over size P Q (first + size x) last xs (omega (arith, fits, s)) (λ p y low high. over p y (omega (arith, low)) high) all.1,
    )
