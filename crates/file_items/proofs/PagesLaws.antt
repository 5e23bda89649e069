-- A list of pages that is read is spelled so, and what is spelled so is read.
use Rattle.std.proofs.Common.{◌≡◌, ℕ, zero, suc, ◌^◌, ◌<◌, ◌≤◌, ◌%◌, true, nat_lt, List, [], ◌∷◌, length, refl, arith}
use Rattle.std.specs.Prelude.{⊤, ◌==◌}
use Rattle.std.specs.Int.{w32, w64, to_le_bytes}
use Rattle.std.specs.List.{AllByRecursion}
use Rattle.std.proofs.lemmas.Bool.{eqb-true}
use Rattle.file_items.specs.Items.{number_at, Are, AreCounted}
use Rattle.file_items.proofs.BytesLaws.{Reads, exact32, exact64, number_reads, item_reads, counted_reads}
use Rattle.file_items.specs.Pages.{pages_needed, positive_at, page_of, seen_nothing, pages_at, spell_pages, LieIn}

four : (a b c d a' b' c' d' : ℕ) → a ≡ a' → b ≡ b' → c ≡ c' → d ≡ d' → a ∷ b ∷ c ∷ d ∷ [] ≡ a' ∷ b' ∷ c' ∷ d' ∷ []
four a b c d a' b' c' d' e f g h = rw (e, f, g, h) refl

-- four bytes do not see more of a number
pub low_bytes : (n : ℕ) → to_le_bytes w32 (n % 4294967296) ≡ to_le_bytes w32 n
low_bytes n = four _ _ _ _ _ _ _ _ (omega arith) (omega arith) (omega arith) (omega arith)

-- ---- what the items pass

abbrev pub IsPositive : ℕ → Type 0
IsPositive n = (n < 2 ^ 64) × (nat_lt 0 n ≡ true)

abbrev pub IsPage : ⊤ → ℕ → ℕ → Type 0
IsPage seen after n = n < 2 ^ 32

abbrev pub ArePages : ℕ → List ℕ → Type 0
ArePages bytes pages = AreCounted (2 ^ 32) (λ count. count == pages_needed bytes) IsPage seen_nothing tt pages

pub positive_reads : Reads positive_at (to_le_bytes w64) IsPositive
positive_reads = item_reads (number_at w64) (to_le_bytes w64) (λ n. n < 2 ^ 64) (nat_lt 0) (number_reads w64 (2 ^ 64) exact64)

page_reads : (seen : ⊤) (after : ℕ) → Reads (page_of seen after) (to_le_bytes w32) (IsPage seen after)
page_reads seen after = number_reads w32 (2 ^ 32) exact32

pub pages_reads : (bytes : ℕ) → Reads (pages_at bytes) spell_pages (ArePages bytes)
unfolding pages_at
pages_reads bytes = counted_reads w32 (2 ^ 32) exact32 (λ count. count == pages_needed bytes) page_of seen_nothing (to_le_bytes w32) IsPage page_reads tt

-- ---- as a rule

all_pages : (k : ℕ) (pages : List ℕ) → Are IsPage seen_nothing k tt pages → AllByRecursion (λ p. p < 2 ^ 32) pages
unfolding Are
all_pages zero [] good = tt
all_pages zero (p ∷ pages) good = absurd good
all_pages (suc k) [] good = tt
all_pages (suc k) (p ∷ pages) good = (good.0, all_pages k pages good.1)

pages_all : (pages : List ℕ) → AllByRecursion (λ p. p < 2 ^ 32) pages → Are IsPage seen_nothing (length pages) tt pages
unfolding Are
pages_all [] good = tt
pages_all (p ∷ pages) good = (good.0, pages_all pages good.1)

at_least_one : (n : ℕ) → nat_lt 0 n ≡ true → 1 ≤ n
at_least_one n e = grind (arith, e)

above_none : (n : ℕ) → 1 ≤ n → nat_lt 0 n ≡ true
above_none n some = grind (arith, some)

same_count : (a b : ℕ) → a ≡ b → (a == b) ≡ true
same_count a b e = rw e (grind arith)

pub lie_in : (bytes : ℕ) (pages : List ℕ) → IsPositive bytes → ArePages bytes pages → LieIn bytes pages
lie_in bytes pages some are = record {
  some = (at_least_one bytes some.1, some.0);
  count = (eqb-true _ _ are.count, are.below);
  each = all_pages (length pages) pages are.each;
}

pub has_bytes : (bytes : ℕ) (pages : List ℕ) → LieIn bytes pages → IsPositive bytes
has_bytes bytes pages lie = (lie.some.1, above_none bytes lie.some.0)

pub has_pages : (bytes : ℕ) (pages : List ℕ) → LieIn bytes pages → ArePages bytes pages
has_pages bytes pages lie = record {
  below = lie.count.1;
  count = same_count (length pages) (pages_needed bytes) lie.count.0;
  each = pages_all pages lie.each;
}
