-- Pages that are found again in a file of which other pages were written.
use Rattle.std.proofs.Common.{◌≡◌, ◌<◌, ◌≤◌, ℕ, zero, suc, ◌+◌, ◌*◌, Bool, true, false, cond, List, [], ◌∷◌, ◌++◌, length, slice_index, refl, sym, ◌∙◌, ap, arith}
use Rattle.std.specs.Prelude.{if◌then◌else◌, ◌&&◌, not, nat_lt, nat_eq, Some, None, Ok, Err}
use Rattle.std.specs.List.{AllByRecursion, list_any}
use Rattle.std.proofs.lemmas.Bool.Decides.{nat_tests}
use Rattle.page_chain.specs.Places.{IsNone, KeepsPages}
use Rattle.page_file.specs.Pages.{page_size, has_page, first_past, blob}
use Rattle.page_file.specs.Chains.{names_page}
use Rattle.page_file.proofs.PageLaws.{blob_kept}
use Rattle.file_meaning.specs.Opening.{claimed, are_pages}

-- ---- lists

pub front_all : {A : Type 0} (P : A → Type 0) (xs ys : List A) → AllByRecursion P (xs ++ ys) → AllByRecursion P xs
front_all P [] ys all = tt
front_all P (x ∷ xs) ys all = (all.0, front_all P xs ys all.1)

pub rest_all : {A : Type 0} (P : A → Type 0) (xs ys : List A) → AllByRecursion P (xs ++ ys) → AllByRecursion P ys
rest_all P [] ys all = all
rest_all P (x ∷ xs) ys all = rest_all P xs ys all.1

pub each_none : (written pages : List ℕ) → AllByRecursion (IsNone written) pages → (k : ℕ) → k < length pages → IsNone written (slice_index pages k)
each_none written [] all k low = absurd (omega arith)
each_none written (p ∷ pages) all zero low = all.0
each_none written (p ∷ pages) all (suc k) low = each_none written pages all.1 k (omega arith)

-- ---- pages

has_still : (old new : List ℕ) (page : ℕ) → length old ≤ length new → has_page page_size old page ≡ true → has_page page_size new page ≡ true
has_still old new page more has =
    let fits : page_size * (page + 1) ≤ length old = grind (arith, nat_tests) in
    let still : page_size * (page + 1) ≤ length new = omega (arith, fits, more) in
    grind (arith, nat_tests)

parts : (x y z : Bool) → (x && y && z) ≡ true → (x ≡ true) × (y ≡ true) × (z ≡ true)
parts true true true is = (refl, refl, refl)
parts true true false is = absurd cc
parts true false z is = absurd cc
parts false y z is = absurd cc

names_parts : (file taken : List ℕ) (page : ℕ) → names_page page_size file taken page ≡ true
    → (nat_lt 0 page ≡ true) × (has_page page_size file page ≡ true) × (not (list_any (λ p. nat_eq p page) taken) ≡ true)
names_parts file taken page is = parts (nat_lt 0 page) (has_page page_size file page) (not (list_any (λ p. nat_eq p page) taken)) is

pub names_still : (old new taken : List ℕ) (page : ℕ) → length old ≤ length new → names_page page_size old taken page ≡ true → names_page page_size new taken page ≡ true
names_still old new taken page more names =
    let p = names_parts old taken page names in
    ap (λ (b : Bool). nat_lt 0 page && b && not (list_any (λ q. nat_eq q page) taken)) (has_still old new page more p.1 ∙ sym p.1) ∙ names

both : (x y : Bool) → (x && y) ≡ true → (x ≡ true) × (y ≡ true)
both true true is = (refl, refl)
both true false is = absurd cc
both false y is = absurd cc

pub both_true : (x y : Bool) → (x && y) ≡ true → (x ≡ true) × (y ≡ true)
both_true = both

pub pages_still : (old new pages : List ℕ) → length old ≤ length new → are_pages old pages ≡ true → are_pages new pages ≡ true
pages_still old new [] more are = refl
pages_still old new (p ∷ pages) more are =
    let e = both (names_page page_size old [] p) (are_pages old pages) are in
    ap (λ (b : Bool). b && are_pages new pages) (names_still old new [] p more e.0) ∙ pages_still old new pages more e.1

none_past : (file pages : List ℕ) (page : ℕ) → has_page page_size file page ≡ true → first_past page_size file pages ≡ None → first_past page_size file (page ∷ pages) ≡ None
none_past file pages page has rest = ap (λ (b : Bool). cond (not b) (Some page) (first_past page_size file pages)) has ∙ rest

pub pages_there : (file pages : List ℕ) → are_pages file pages ≡ true → first_past page_size file pages ≡ None
pages_there file [] are = refl
pages_there file (p ∷ pages) are =
    let e = both (names_page page_size file [] p) (are_pages file pages) are in
    none_past file pages p (names_parts file [] p e.0).1 (pages_there file pages e.1)

-- ---- claims

claim_case : (old new : List ℕ) (named : ℕ) (taken pages now : List ℕ) (page : ℕ) (b : Bool) → names_page page_size old taken page ≡ b
    → (if b then claimed old named (page ∷ taken) pages else Err named) ≡ Ok now → (names_page page_size old taken page ≡ true) × (claimed old named (page ∷ taken) pages ≡ Ok now)
claim_case old new named taken pages now page true names is = (names, is)
claim_case old new named taken pages now page false names is = absurd cc

pub claim_parts : (file : List ℕ) (named : ℕ) (taken pages now : List ℕ) (page : ℕ) → claimed file named taken (page ∷ pages) ≡ Ok now
    → (names_page page_size file taken page ≡ true) × (claimed file named (page ∷ taken) pages ≡ Ok now)
claim_parts file named taken pages now page is = claim_case file file named taken pages now page (names_page page_size file taken page) refl is

pub claimed_still : (old new : List ℕ) (named : ℕ) (pages taken now : List ℕ) → length old ≤ length new → claimed old named taken pages ≡ Ok now → claimed new named taken pages ≡ Ok now
claimed_still old new named [] taken now more is = is
claimed_still old new named (p ∷ pages) taken now more is =
    let e = claim_parts old named taken pages now p is in
    ap (λ (b : Bool). if b then claimed new named (p ∷ taken) pages else Err named) (names_still old new taken p more e.0) ∙ claimed_still old new named pages (p ∷ taken) now more e.1

pub claimed_there : (file : List ℕ) (named : ℕ) (pages taken now : List ℕ) → claimed file named taken pages ≡ Ok now → first_past page_size file pages ≡ None
claimed_there file named [] taken now is = refl
claimed_there file named (p ∷ pages) taken now is =
    let e = claim_parts file named taken pages now p is in
    none_past file pages p (names_parts file taken p e.0).1 (claimed_there file named pages (p ∷ taken) now e.1)

-- ---- blobs

pub blob_still : (written old new pages : List ℕ) (count : ℕ) → KeepsPages written old new → AllByRecursion (IsNone written) pages → first_past page_size old pages ≡ None
    → blob page_size new pages count ≡ blob page_size old pages count
blob_still written old new pages count kept apart there = (blob_kept written old new pages count kept (each_none written pages apart) there).1
