-- Bytes at places of a file, and pages.
use Rattle.std.specs.Prelude.{◌≡◌, ◌≢◌, ℕ, ◌+◌, ◌*◌, ◌<◌, ◌≤◌, ◌⊎◌, List, length, slice_index}
use Rattle.byteorder.specs.Endian.{little_from}
use Rattle.page_chain.specs.declared.slots.layout.sides.Side.{Side}
use Rattle.page_chain.specs.declared.slots.layout.sides.Side.TheVariants.{A, B}

-- the number in so many bytes from a place on, the low byte first
unfoldable pub number_at : ℕ → ℕ → List ℕ → ℕ
number_at bytes at file = little_from at bytes file

-- where the gate of a root slot stands
abbrev pub gate_of : Side → ℕ
gate_of A = 512
gate_of B = 1024

-- where the body of a root slot begins
abbrev pub body_of : Side → ℕ
body_of A = 520
body_of B = 1032

abbrev pub other : Side → Side
other A = B
other B = A

-- a page's number is at least 1, and the page lies within the file's length
pub record IsPage (number size : ℕ) : Type 0 where
  pub least : 0 < number
  pub within : 4096 * (number + 1) ≤ size

-- the same bytes, but for so many from a place on
pub record SameBut (at count : ℕ) (old new : List ℕ) : Type 0 where
  pub size : length new ≡ length old
  pub each : (k : ℕ) → (k < at) ⊎ (at + count ≤ k) → slice_index new k ≡ slice_index old k

-- this page isn't one of these
abbrev pub IsNone : List ℕ → ℕ → Type 0
IsNone pages number = (k : ℕ) → k < length pages → slice_index pages k ≢ number

-- The pages that aren't among these hold what they held. The file is no shorter, and no longer than the old one and these pages need.
pub record KeepsPages (pages old new : List ℕ) : Type 0 where
  pub no_shorter : length old ≤ length new
  pub no_longer : (most : ℕ) → length old ≤ most → ((k : ℕ) → k < length pages → 4096 * (slice_index pages k + 1) ≤ most) → length new ≤ most
  pub others : (number k : ℕ) → IsNone pages number → k < 4096 → 4096 * number + k < length old
      → slice_index new (4096 * number + k) ≡ slice_index old (4096 * number + k)
