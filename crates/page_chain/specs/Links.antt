-- A chain told by its links, and pages that a chain may be written to.
use Rattle.std.specs.Prelude.{◌≡◌, ℕ, ◌+◌, ◌<◌, ◌^◌, List, length, slice_index, true}
use Rattle.page_chain.specs.Places.{IsNone}
use Rattle.page_chain.specs.Pages.{page_size, pages_for, AreDistinct}
use Rattle.page_chain.specs.Chains.{content_size, names_page, next_of}

-- The pages of a chain of some bytes: as many as these need. The link leads to the first one, each begins with the number of the next
-- one, and the last one with 0. Each is a page that a link may name, and they differ from one another.
pub record AreLinked (file taken : List ℕ) (link count : ℕ) (pages : List ℕ) : Type 0 where
  pub some : 0 < count
  pub enough : length pages ≡ pages_for (content_size page_size) count
  pub begins : slice_index pages 0 ≡ link
  pub next : (k : ℕ) → k < length pages → next_of page_size file (slice_index pages k) ≡ slice_index pages (k + 1)
  pub named : (k : ℕ) → k < length pages → names_page page_size file taken (slice_index pages k) ≡ true
  pub distinct : AreDistinct pages

-- pages that differ from one another and from those taken, by numbers from 1 that four bytes hold
pub record AreFree (taken pages : List ℕ) : Type 0 where
  pub least : (k : ℕ) → k < length pages → 0 < slice_index pages k
  pub most : (k : ℕ) → k < length pages → slice_index pages k < 2 ^ 32
  pub apart : (k : ℕ) → k < length pages → IsNone taken (slice_index pages k)
  pub distinct : AreDistinct pages
