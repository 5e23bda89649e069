-- Pages one after the other that a file has and that aren't taken are claimed.
use Rattle.std.proofs.Common.{◌≡◌, ℕ, zero, suc, ◌+◌, ◌<◌, ◌≤◌, Bool, true, List, [], ◌∷◌, length, refl, ◌∙◌, ap, arith}
use Rattle.std.specs.Prelude.{if◌then◌else◌, Ok, Err}
use Rattle.std.specs.List.{AllByRecursion}
use Rattle.std.proofs.lemmas.Bool.{and_from}
use Rattle.page_chain.specs.Places.{IsNone}
use Rattle.page_file.specs.Pages.{page_size, pages_for, has_page, blob, HoldsBlob}
use Rattle.page_file.specs.Chains.{names_page}
use Rattle.page_file.proofs.PageLaws.{blob_read}
use Rattle.file_meaning.specs.Opening.{claimed, are_pages}
use Rattle.file_meaning.proofs.Free.{none_cons, has_none, names_by, all_there}
use Rattle.backup_restoring.specs.Inner.Layout.{pages_from}
use Rattle.backup_restoring.proofs.Laid.{length_from}

-- none of so many pages from one on is taken
abbrev pub AreUntaken : ℕ → ℕ → List ℕ → Type 0
AreUntaken first count taken = (p : ℕ) → first ≤ p → p < first + count → IsNone taken p

-- no other page is taken now
pub record Takes (first count : ℕ) (taken now : List ℕ) : Type 0 where
  pub below : (p : ℕ) → p < first → IsNone taken p → IsNone now p
  pub behind : (p : ℕ) → first + count ≤ p → IsNone taken p → IsNone now p

pub takes_none : (first count : ℕ) (taken : List ℕ) → Takes first count taken taken
takes_none first count taken = record { below = λ p less none. none; behind = λ p more none. none }

-- one after the other
pub takes_on : (first a b both : ℕ) (taken mid now : List ℕ) → a + b ≡ both → Takes first a taken mid → Takes (first + a) b mid now → Takes first both taken now
takes_on first a b both taken mid now is one two = record {
  below = λ p less none. two.below p (omega (arith, less)) (one.below p less none);
  behind = λ p more none. two.behind p (omega (arith, more, is)) (one.behind p (omega (arith, more, is)) none);
}

-- the second part first
pub takes_back : (first a b both : ℕ) (taken mid now : List ℕ) → a + b ≡ both → Takes (first + a) b taken mid → Takes first a mid now → Takes first both taken now
takes_back first a b both taken mid now is one two = record {
  below = λ p less none. two.below p less (one.below p (omega (arith, less)) none);
  behind = λ p more none. two.behind p (omega (arith, more, is)) (one.behind p (omega (arith, more, is)) none);
}

-- what is claimed of a file, and what is taken by then
pub record Claims (file : List ℕ) (named first count : ℕ) (taken : List ℕ) : Type 0 where
  pub now : List ℕ
  pub is : claimed file named taken (pages_from first count) ≡ Ok now
  pub takes : Takes first count taken now

abbrev pub HasPages : List ℕ → ℕ → ℕ → Type 0
HasPages file first count = AllByRecursion (λ p. has_page page_size file p ≡ true) (pages_from first count)

pub claims_from : (file : List ℕ) (named first count : ℕ) (taken : List ℕ) → 0 < first → AreUntaken first count taken → HasPages file first count → Claims file named first count taken
claims_from file named first zero taken some free there = record { now = taken; is = refl; takes = takes_none first 0 taken }
claims_from file named first (suc n) taken some free there =
    let names : names_page page_size file taken first ≡ true = names_by file taken first some there.0 (has_none taken first (free first (omega arith) (omega arith))) in
    let later = claims_from file named (first + 1) n (first ∷ taken) (omega arith)
    (λ p low high. none_cons first taken p (λ same. omega (arith, same, low)) (free p (omega (arith, low)) (omega (arith, high)))) there.1 in
    record {
      now = later.now;
      is = ap (λ (b : Bool). if b then claimed file named (first ∷ taken) (pages_from (first + 1) n) else Err named) names ∙ later.is;
      takes = record {
        below = λ p less none. later.takes.below p (omega (arith, less)) (none_cons first taken p (λ same. omega (arith, same, less)) none);
        behind = λ p more none. later.takes.behind p (omega (arith, more)) (none_cons first taken p (λ same. omega (arith, same, more)) none);
      };
    }

pub are_pages_from : (file : List ℕ) (first count : ℕ) → 0 < first → HasPages file first count → are_pages file (pages_from first count) ≡ true
are_pages_from file first zero some there = refl
are_pages_from file first (suc n) some there =
    and_from (names_page page_size file [] first) (are_pages file (pages_from (first + 1) n)) (names_by file [] first some there.0 refl) (are_pages_from file (first + 1) n (omega arith) there.1)

-- a file that holds some bytes there has these pages, and they are read so
pub record IsHeld (file : List ℕ) (first count : ℕ) (bytes : List ℕ) : Type 0 where
  pub there : HasPages file first count
  pub read : blob page_size file (pages_from first count) (length bytes) ≡ bytes

pub is_held : (file : List ℕ) (first count : ℕ) (bytes : List ℕ) → count ≡ pages_for page_size (length bytes) → HoldsBlob page_size file (pages_from first count) bytes → IsHeld file first count bytes
is_held file first count bytes enough held =
    let r = blob_read file (pages_from first count) bytes held (length_from first count ∙ enough) in
    record { there = all_there file (pages_from first count) r.0; read = r.1 }
