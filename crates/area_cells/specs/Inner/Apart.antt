-- First numbers.
use Rattle.std.specs.Prelude.{◌≡◌, ℕ, ◌-◌, ◌<◌, ℤ, int_lt, Bool, false, List, [], ◌∷◌, length, slice_index_or}
use Rattle.array_geom.specs.declared.chunk.Chunk.{Chunk}
use Rattle.array_geom.specs.Geometry.{ChunkNumber}

-- whether the first of some numbers is above the first of others
abbrev pub begins_above : List ℤ → List ℤ → Bool
begins_above (x ∷ xs) (y ∷ ys) = int_lt y x
begins_above _ _ = false

-- the first number of a chunk
abbrev pub first_of : ChunkNumber → ℕ
first_of [] = 0
first_of (k ∷ ks) = k

-- the chunk at a place has a higher first number than the one before
pub record BeginsBand (at : ℕ) (chunks : List Chunk) : Type 0 where
  pub some : 0 < at
  pub within : at < length chunks
  pub before : Chunk
  pub next : Chunk
  pub before_is : before ≡ slice_index_or chunks (at - 1) before
  pub next_is : next ≡ slice_index_or chunks at next
  pub rises : first_of before.at.items < first_of next.at.items
