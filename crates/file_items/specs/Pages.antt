-- Lists of pages as items of bytes.
use Rattle.std.specs.Prelude.{◌≡◌, ℕ, ⊤, ◌+◌, ◌/◌, ◌<◌, ◌≤◌, ◌^◌, ◌==◌, nat_lt, List, length}
use Rattle.std.specs.List.{AllByRecursion}
use Rattle.std.specs.Int.{w32, w64, to_le_bytes}
use Rattle.file_items.specs.Items.{Reading, number_at, item, counted, spell_counted}

-- how many pages of 4,096 bytes so many bytes lie in
abbrev pub pages_needed : ℕ → ℕ
pages_needed bytes = (bytes + 4095) / 4096

-- a number of at least 1
abbrev pub positive_at : Reading ℕ
positive_at = item (number_at w64) (nat_lt 0)

abbrev pub page_of : ⊤ → ℕ → Reading ℕ
page_of seen after = number_at w32

abbrev pub seen_nothing : ⊤ → ℕ → ⊤
seen_nothing seen page = tt

-- as many pages as these bytes need, with their count before them. Which pages they are is no part of the spelling
unfoldable pub pages_at : ℕ → Reading (List ℕ)
pages_at bytes = counted w32 (λ count. count == pages_needed bytes) page_of seen_nothing tt

abbrev pub spell_pages : List ℕ → List ℕ
spell_pages = spell_counted w32 (to_le_bytes w32)

-- some bytes, in as many pages as they need
pub record LieIn (bytes : ℕ) (pages : List ℕ) : Type 0 where
  pub some : (1 ≤ bytes) × (bytes < 2 ^ 64)
  pub count : (length pages ≡ pages_needed bytes) × (length pages < 2 ^ 32)
  pub each : AllByRecursion (λ p. p < 2 ^ 32) pages
