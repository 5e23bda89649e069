-- No page is free twice.
use Rattle.std.proofs.Common.{◌≡◌, ◌∙◌, ◌<◌, ◌+◌, ◌-◌, ℕ, zero, suc, Bool, true, false, cond, not, ◌&&◌, ◌||◌, List, [], ◌∷◌, length, take, slice_index, refl, sym, ap, subst, arith}
use Rattle.std.specs.Prelude.{IsTrue, nat_eq}
use Rattle.std.specs.List.{AllByRecursion, filter}
use Rattle.std.proofs.lemmas.Bool.{and_from, and_parts, eq-eqb, or_right}
use Rattle.std.proofs.lemmas.Bool.Decides.{nat_tests}
use Rattle.version_reaper.specs.PageSets.{holds, pages_from, pages_below}
use Rattle.page_chain.specs.Pages.{AreDistinct}
use Rattle.event_core.specs.declared.entry.Entry.TheVariants.{Pin, Unpin, Commit, Reap}
use Rattle.event_core.specs.declared.state.Core.{Core}
use Rattle.event_core.specs.Allowed.{IsBase, are_different}
use Rattle.event_core.specs.History.{History}
use Rattle.event_core.specs.Pages.{free_at, fresh_at, is_live}
use Rattle.event_core.proofs.Tests.{holds_filter}
use Rattle.store_state.specs.GivenLaws.{FreePagesDiffer}
use Rattle.store_state.proofs.Uses.{all_own}

-- ---- lists without a page twice

not_true : (b : Bool) → b ≡ false → not b ≡ true
not_true true e = absurd cc
not_true false e = refl

not_held : (b : Bool) → not b ≡ true → b ≡ false
not_held true e = absurd cc
not_held false e = refl

none_before : (first next count : ℕ) → first < next → holds (pages_from next count) first ≡ false
none_before first next zero less = refl
none_before first next (suc count) less =
    let other : nat_eq next first ≡ false = grind (arith, nat_tests) in
    ap (λ (b : Bool). b || holds (pages_from (next + 1) count) first) other ∙ none_before first (next + 1) count (omega (arith, less))

pages_differ : (first count : ℕ) → are_different (pages_from first count) ≡ true
pages_differ first zero = refl
pages_differ first (suc count) =
    and_from (not (holds (pages_from (first + 1) count) first)) (are_different (pages_from (first + 1) count)) (not_true (holds (pages_from (first + 1) count) first) (none_before first (first + 1) count (omega arith)))
    (pages_differ (first + 1) count)

both_absent : (a b : Bool) → b ≡ false → (a && b) ≡ false
both_absent true b e = e
both_absent false b e = refl

filter_differs : (t : ℕ → Bool) (xs : List ℕ) → are_different xs ≡ true → are_different (filter t xs) ≡ true
filter_differs t [] all = refl
filter_differs t (x ∷ xs) all =
    let parts = and_parts (not (holds xs x)) (are_different xs) all in
    let absent : holds (filter t xs) x ≡ false = holds_filter t xs x ∙ both_absent (t x) (holds xs x) (not_held (holds xs x) parts.0) in
    by_test (t x) absent (filter_differs t xs parts.1)
  where
    by_test : (b : Bool) → holds (filter t xs) x ≡ false → are_different (filter t xs) ≡ true → are_different (cond b (x ∷ filter t xs) (filter t xs)) ≡ true
    by_test true absent later = and_from (not (holds (filter t xs) x)) (are_different (filter t xs)) (not_true (holds (filter t xs) x) absent) later
    by_test false absent later = later

take_holds : (n : ℕ) (xs : List ℕ) (page : ℕ) → holds xs page ≡ false → holds (take n xs) page ≡ false
take_holds zero xs page e = refl
take_holds (suc n) [] page e = refl
take_holds (suc n) (x ∷ xs) page e = by_test (nat_eq x page) e (take_holds n xs page)
  where
    by_test : (b : Bool) → (b || holds xs page) ≡ false → (holds xs page ≡ false → holds (take n xs) page ≡ false) → (b || holds (take n xs) page) ≡ false
    by_test true is later = absurd cc
    by_test false is later = later is

take_differs : (n : ℕ) (xs : List ℕ) → are_different xs ≡ true → are_different (take n xs) ≡ true
take_differs zero xs all = refl
take_differs (suc n) [] all = refl
take_differs (suc n) (x ∷ xs) all =
    let p = and_parts (not (holds xs x)) (are_different xs) all in
    and_from (not (holds (take n xs) x)) (are_different (take n xs)) (not_true (holds (take n xs) x) (take_holds n xs x (not_held (holds xs x) p.0))) (take_differs n xs p.1)

held_at : (xs : List ℕ) (page k : ℕ) → k < length xs → slice_index xs k ≡ page → holds xs page ≡ true
held_at [] page k low is = absurd (omega (arith, low))
held_at (x ∷ xs) page zero low is = ap (λ (b : Bool). b || holds xs page) (eq-eqb x page is)
held_at (x ∷ xs) page (suc k) low is = or_right (nat_eq x page) (holds xs page) (held_at xs page k (omega (arith, low)) is)

pub different_distinct : (xs : List ℕ) → are_different xs ≡ true → AreDistinct xs
different_distinct [] all i j less low same = absurd (omega (arith, low))
different_distinct (x ∷ xs) all zero zero less low same = absurd (omega (arith, less))
different_distinct (x ∷ xs) all (suc i) zero less low same = absurd (omega (arith, less))
different_distinct (x ∷ xs) all zero (suc j) less low same =
    let p = and_parts (not (holds xs x)) (are_different xs) all in
    let absent = not_held (holds xs x) p.0 in
    let there = held_at xs x j (omega (arith, low)) (sym same) in
    absurd (let e : true ≡ false = sym there ∙ absent in cc)
different_distinct (x ∷ xs) all (suc i) (suc j) less low same =
    different_distinct xs (and_parts (not (holds xs x)) (are_different xs) all).1 i j (omega (arith, less)) (omega (arith, low)) same

-- ---- free pages

free_differ : (base : Core) (h : History) → IsBase base → are_different (free_at base h) ≡ true
free_differ base [] is = subst (λ (ps : List ℕ). are_different ps ≡ true) (sym is.free) (filter_differs (λ page. not (is_live base [] page)) (pages_below base.limit) (pages_differ 1 (base.limit - 1)))
free_differ base (Pin session ∷ h) is = free_differ base h is
free_differ base (Unpin session ∷ h) is = free_differ base h is
free_differ base (Commit session change used ∷ h) is = filter_differs (λ page. not (holds (fresh_at base h change used) page)) (free_at base h) (free_differ base h is)
free_differ base (Reap ∷ h) is = filter_differs (λ page. not (is_live base h page)) (pages_below base.limit) (pages_differ 1 (base.limit - 1))

take_has : (P : ℕ → Type 0) (n : ℕ) (xs : List ℕ) → AllByRecursion P xs → AllByRecursion P (take n xs)
take_has P zero xs all = tt
take_has P (suc n) [] all = tt
take_has P (suc n) (x ∷ xs) all = (all.0, take_has P n xs all.1)

pub first_differ : FreePagesDiffer
first_differ base h count is =
    let free = free_at base h in
    let different = take_differs count free (free_differ base h is) in
    record { free = take_has (λ page. IsTrue (holds free page)) count free (all_own free); different = different; distinct = different_distinct (take count free) different }
