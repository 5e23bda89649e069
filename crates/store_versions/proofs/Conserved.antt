-- Each page from 1 below the limit is free, live or awaiting a reap, and is so once.
use Rattle.std.proofs.Common.{◌≡◌, ◌∙◌, ℕ, zero, suc, ◌+◌, ◌-◌, Bool, true, false, not, ◌&&◌, if◌then◌else◌, List, [], ◌∷◌, length, refl, ap, sym, arith, inl, inr}
use Rattle.std.specs.List.{filter, list_any}
use Rattle.std.proofs.lemmas.Bool.{or_left, or_right, or_parts, or_cases, eqb-true, eq-eqb}
use Rattle.event_core.specs.PageSets.{holds, pages_from, pages_below}
use Rattle.event_core.specs.declared.entry.Entry.TheVariants.{Pin, Unpin, Commit, Reap}
use Rattle.event_core.specs.declared.state.Core.{Core}
use Rattle.event_core.specs.History.{History}
use Rattle.event_core.specs.Pages.{is_live, fresh_at, free_at, is_awaiting}
use Rattle.event_core.specs.Allowed.{IsBase}
use Rattle.event_core.proofs.Tests.{both_not, holds_filter, if_tests}
use Rattle.store_versions.proofs.Free.{no_free_page_is_live}
use Rattle.store_versions.specs.Promises.{PagesAreConserved, ReapsWithoutGainChangeNothing}

twice : {A : Type 0} (b : Bool) (s : A → Bool) (x : A) (ys zs : List A) → filter s ys ≡ zs → filter s (if b then x ∷ ys else ys) ≡ (if b && s x then x ∷ zs else zs)
twice true s x ys zs e = ap (λ ws. if s x then x ∷ ws else ws) e
twice false s x ys zs e = e

-- two filters, one after the other
pub filter_filter : {A : Type 0} (t s : A → Bool) (xs : List A) → filter s (filter t xs) ≡ filter (λ x. t x && s x) xs
filter_filter t s [] = refl
filter_filter t s (x ∷ xs) = twice (t x) s x _ _ (filter_filter t s xs)

-- tests that agree on the pages of a list keep the same
filter_members : (p q : ℕ → Bool) (xs : List ℕ) → ((x : ℕ) → holds xs x ≡ true → p x ≡ q x) → filter p xs ≡ filter q xs
filter_members p q [] h = refl
filter_members p q (x ∷ xs) h = if_tests (p x) (q x) x _ _ (h x (or_left _ _ (eq-eqb x x refl))) (filter_members p q xs (λ y e. h y (or_right _ _ e)))

-- which pages below the limit are free
abbrev kept : Core → History → ℕ → Bool
kept base [] page = not (is_live base [] page)
kept base (Pin session ∷ h) page = kept base h page
kept base (Unpin session ∷ h) page = kept base h page
kept base (Commit session change used ∷ h) page = kept base h page && not (holds (fresh_at base h change used) page)
kept base (Reap ∷ h) page = not (is_live base h page)

free_kept : (base : Core) (h : History) → IsBase base → free_at base h ≡ filter (kept base h) (pages_below base.limit)
free_kept base [] b = b.free
free_kept base (Pin session ∷ h) b = free_kept base h b
free_kept base (Unpin session ∷ h) b = free_kept base h b
free_kept base (Commit session change used ∷ h) b =
    ap (filter (λ page. not (holds (fresh_at base h change used) page))) (free_kept base h b)
    ∙ filter_filter (kept base h) (λ page. not (holds (fresh_at base h change used) page)) (pages_below base.limit)
free_kept base (Reap ∷ h) b = refl

true_last : (a b : Bool) → b ≡ true → a ≡ (a && b)
true_last true b e = sym e
true_last false b e = refl

-- the free pages are the pages below the limit that are free, in their order
free_is : (base : Core) (h : History) → IsBase base → free_at base h ≡ filter (holds (free_at base h)) (pages_below base.limit)
free_is base h b =
    free_kept base h b
    ∙ filter_members (kept base h) (holds (free_at base h)) (pages_below base.limit)
    (λ page e. true_last (kept base h page) _ e ∙ sym (holds_filter (kept base h) (pages_below base.limit) page) ∙ ap (λ free. holds free page) (sym (free_kept base h b)))

one_of_three : (a l : Bool) (x : ℕ) (fs ls ws : List ℕ) (n : ℕ) → (a ≡ true → l ≡ false) → length fs + (length ls + length ws) ≡ n →
    length (if a then x ∷ fs else fs) + (length (if l then x ∷ ls else ls) + length (if not a && not l then x ∷ ws else ws)) ≡ suc n
one_of_three true true x fs ls ws n h e = cc (h refl)
one_of_three true false x fs ls ws n h e = omega (arith, e)
one_of_three false true x fs ls ws n h e = omega (arith, e)
one_of_three false false x fs ls ws n h e = omega (arith, e)

three_parts : (a l : ℕ → Bool) (xs : List ℕ) → ((x : ℕ) → a x ≡ true → l x ≡ false) → length (filter a xs) + (length (filter l xs) + length (filter (λ x. not (a x) && not (l x)) xs)) ≡ length xs
three_parts a l [] h = refl
three_parts a l (x ∷ xs) h = one_of_three (a x) (l x) x _ _ _ (length xs) (h x) (three_parts a l xs h)

how_many : (first count : ℕ) → length (pages_from first count) ≡ count
how_many first zero = refl
how_many first (suc count) = ap suc (how_many (first + 1) count)

pub pages_are_conserved : PagesAreConserved
pages_are_conserved base h b ok =
    ap (λ n. n + (length (filter (is_live base h) (pages_below base.limit)) + length (filter (is_awaiting base h) (pages_below base.limit)))) (ap length (free_is base h b))
    ∙ three_parts (holds (free_at base h)) (is_live base h) (pages_below base.limit) (λ page e. no_free_page_is_live base h b ok page e)
    ∙ how_many 1 (base.limit - 1)

none_held : (t : ℕ → Bool) (xs : List ℕ) (page : ℕ) → list_any t xs ≡ false → holds xs page ≡ true → t page ≡ false
none_held t [] page none e = absurd (both_not false refl e)
none_held t (x ∷ xs) page none e =
    elim (or_cases _ _ e) [ inl a ↦ sym (ap t (eqb-true x page a)) ∙ (or_parts _ _ none).0 | inr b ↦ none_held t xs page (or_parts _ _ none).1 b ]

settled : (f l : Bool) → (not f && not l) ≡ false → (f ≡ true → l ≡ false) → not l ≡ f
settled true true none dead = absurd (both_not true (dead refl) refl)
settled true false none dead = refl
settled false true none dead = refl
settled false false none dead = absurd (both_not true none refl)

pub reaps_without_gain_change_nothing : ReapsWithoutGainChangeNothing
reaps_without_gain_change_nothing base h b ok none =
    filter_members (λ page. not (is_live base h page)) (holds (free_at base h)) (pages_below base.limit)
    (λ page e. settled (holds (free_at base h) page) (is_live base h page) (none_held (is_awaiting base h) (pages_below base.limit) page none e) (no_free_page_is_live base h b ok page))
    ∙ sym (free_is base h b)
