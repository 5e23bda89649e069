-- What a write of a page keeps, and what it leaves there.
use Rattle.std.proofs.Common.{◌≡◌, ◌≢◌, ◌≤◌, ◌<◌, ◌⊎◌, ⊎_elim, ℕ, zero, suc, ◌+◌, ◌-◌, ◌*◌, min, List, [], ◌∷◌, ◌++◌, length, take, drop, replicate, slice_index, get_or, refl, sym, ◌∙◌, ap, subst, arith, append_assoc, length-append, length-drop}
use Rattle.std.proofs.lemmas.List.{drop_at, take_all, length-take, length-replicate, take-append-le, get_or-take, get_or-drop}
use Rattle.std.proofs.lemmas.Bool.{cases_lt}
use Rattle.std.proofs.lemmas.Grind.{same_number_lists}
use Rattle.afl_outside.specs.Disk.{written, Torn}
use Rattle.page_chain.specs.Places.{IsNone, KeepsPages}
use Rattle.page_chain.specs.Pages.{page_size, page_at}

pub size_is : page_size ≡ 4096
unfolding page_size
size_is = refl

pub keeps_self : (pages file : List ℕ) → KeepsPages pages file file
keeps_self pages file = record { no_shorter = omega arith; no_longer = λ most old fits. old; others = λ number k none low within. refl }

pub keeps_on : (pages a b c : List ℕ) → KeepsPages pages a b → KeepsPages pages b c → KeepsPages pages a c
keeps_on pages a b c p q = record {
  no_shorter = omega (arith, p.no_shorter, q.no_shorter);
  no_longer = λ most old fits. q.no_longer most (p.no_longer most old fits) fits;
  others = λ number k none low within. q.others number k none low (omega (arith, within, p.no_shorter)) ∙ p.others number k none low within;
}

pub keeps_more : (few many a b : List ℕ) → ((number : ℕ) → IsNone many number → IsNone few number) → KeepsPages few a b → KeepsPages many a b
keeps_more few many a b fewer p = record {
  no_shorter = p.no_shorter;
  no_longer = λ most old fits. p.no_longer most old (inside most fits);
  others = λ number k none low within. p.others number k (fewer number none) low within;
}
  where
    inside : (most : ℕ) → ((j : ℕ) → j < length many → 4096 * (slice_index many j + 1) ≤ most) → (k : ℕ) → k < length few → 4096 * (slice_index few k + 1) ≤ most
    inside most fits k low = ⊎_elim (λ more. absurd (fewer (slice_index few k) (λ j there. λ same. omega (arith, fits j there, more, same)) k low refl)) (λ within. within)
        (cases_lt most (4096 * (slice_index few k + 1)))

-- one page of a list
pub one_of : (pages : List ℕ) (i page number : ℕ) → i < length pages → slice_index pages i ≡ page → IsNone pages number → IsNone (page ∷ []) number
one_of pages i page number within is none zero low = λ same. none i within (is ∙ same)
one_of pages i page number within is none (suc k) low = absurd (omega arith)

sides : (a b : ℕ) → (a ≢ b) → (a < b) ⊎ (b < a)
sides a b apart = grind arith

-- a write of a page, also one that a crash cuts short, keeps the others
pub torn_keeps : (page at n : ℕ) (old new : List ℕ) → at ≡ 4096 * page → n ≡ 4096 → Torn at n old new → KeepsPages (page ∷ []) old new
torn_keeps page at n old new place size torn = record {
  no_shorter = torn.no_shorter;
  no_longer = λ most within fits. let fit : 4096 * (page + 1) ≤ most = fits 0 (omega arith) in omega (arith, torn.no_longer, within, fit, place, size);
  others = λ number k none low within. ⊎_elim (before number k low within) (behind number k low within) (sides number page (λ same. none 0 (omega arith) (sym same)));
}
  where
    before : (number k : ℕ) → k < 4096 → 4096 * number + k < length old → number < page → slice_index new (4096 * number + k) ≡ slice_index old (4096 * number + k)
    before number k low within less =
        let m : ℕ = min at (length old) in
        let below : 4096 * number + k < min at (length old) = omega arith in
        sym (get_or-take (min at (length old)) new (4096 * number + k) 0 below) ∙ ap (λ (xs : List ℕ). get_or xs (4096 * number + k) 0) torn.before
        ∙ get_or-take (min at (length old)) old (4096 * number + k) 0 below

    behind : (number k : ℕ) → k < 4096 → 4096 * number + k < length old → page < number → slice_index new (4096 * number + k) ≡ slice_index old (4096 * number + k)
    behind number k low within more =
        let there : at + n + (4096 * number + k - (at + n)) ≡ 4096 * number + k = omega arith in
        subst (λ (i : ℕ). slice_index new i ≡ slice_index old i) there
        (sym (get_or-drop (at + n) new (4096 * number + k - (at + n)) 0) ∙ ap (λ (xs : List ℕ). get_or xs (4096 * number + k - (at + n)) 0) torn.after
        ∙ get_or-drop (at + n) old (4096 * number + k - (at + n)) 0)

-- a page that is written is there
pub page_written : (size page at : ℕ) (bytes seen : List ℕ) → at ≡ size * page → length bytes ≡ size → page_at size (written at bytes seen) page ≡ bytes
page_written size page at bytes seen place fits =
    let front : List ℕ = take at (seen ++ replicate {A = ℕ} (at - length seen) 0) in
    let tail : List ℕ = drop (at + length bytes) seen in
    let reaches : length (take at (seen ++ replicate {A = ℕ} (at - length seen) 0)) ≡ at =
    omega (arith, length-take at (seen ++ replicate {A = ℕ} (at - length seen) 0), length-append seen (replicate {A = ℕ} (at - length seen) 0), length-replicate {A = ℕ} (at - length seen) 0) in
    ap (λ (i : ℕ). take size (drop i (written at bytes seen))) (sym place)
    ∙ ap (λ (xs : List ℕ). take size (drop at xs)) (append_assoc front bytes tail)
    ∙ ap (λ (xs : List ℕ). take size xs) (drop_at front (bytes ++ tail) at reaches)
    ∙ take-append-le size bytes tail (omega (arith, fits))
    ∙ take_all size bytes (omega (arith, fits))

-- a page that the file has whole is kept
pub page_kept : (pages : List ℕ) (size page : ℕ) (old new : List ℕ) → size ≡ 4096 → KeepsPages pages old new → IsNone pages page → length (page_at size old page) ≡ size
    → page_at size new page ≡ page_at size old page
page_kept pages size page old new is keeps none whole =
    let place : size * page ≡ 4096 * page = ap (λ (s : ℕ). s * page) is in
    let held : length (take size (drop (size * page) old)) ≡ min size (length old - size * page) = length-take size (drop (size * page) old) ∙ ap (min size) (length-drop (size * page) old) in
    let holds : length (take size (drop (size * page) new)) ≡ min size (length new - size * page) = length-take size (drop (size * page) new) ∙ ap (min size) (length-drop (size * page) new) in
    let longer : length old ≤ length new = keeps.no_shorter in
    let same : length (page_at size new page) ≡ length (page_at size old page) = omega arith in
    same_number_lists (page_at size new page) (page_at size old page) same (λ k low. each k (omega arith) (omega arith))
  where
    each : (k : ℕ) → k < size → 4096 * page + k < length old → get_or (page_at size new page) k 0 ≡ get_or (page_at size old page) k 0
    each k low within =
        let place : size * page + k ≡ 4096 * page + k = ap (λ (s : ℕ). s * page + k) is in
        get_or-take size (drop (size * page) new) k 0 low ∙ get_or-drop (size * page) new k 0
        ∙ subst (λ (i : ℕ). get_or new i 0 ≡ get_or old i 0) (sym place) (keeps.others page k none (omega (arith, is, low)) within)
        ∙ sym (get_or-take size (drop (size * page) old) k 0 low ∙ get_or-drop (size * page) old k 0)
