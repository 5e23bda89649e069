-- Numbers that stay in 64 bits: what a valid schema gives, dimension by dimension, and what a box with places asks for.
use Rattle.std.specs.Prelude.{◌≡◌, ℕ, ◌+◌, ◌-◌, ◌*◌, ◌<◌, ◌≤◌, ◌^◌, ℤ, pos, negsuc, ◌≤ℤ◌, ◌+ℤ◌}
use Rattle.std.specs.Prelude.{int_le, int_lt, Bool, true, false, ◌&&◌, List, [], ◌∷◌, length, ⊤}
use Rattle.std.specs.List.{AllByRecursion}
use Rattle.array_rows.specs.Dimension.{Dimension}
use Rattle.array_geom.specs.declared.grid.Grid.{Grid}
use Rattle.array_rows.specs.Rows.{Coordinate}
use Rattle.array_geom.specs.Geometry.{volume}

pub record IsNear (d : Dimension) : Type 0 where
  pub low : negsuc (2 ^ 62 - 2) ≤ℤ d.lo
  pub order : d.lo ≤ℤ d.hi
  pub high : d.hi ≤ℤ pos (2 ^ 62 - 1)
  pub some : 0 < d.chunk
  pub small : d.chunk ≤ 2 ^ 48

abbrev pub AreNear : List Dimension → Type 0
AreNear = AllByRecursion IsNear

-- a margin for each dimension, and each length of the frame at most 2^48
abbrev pub AreMargins : List Dimension → List ℕ → Type 0
AreMargins [] [] = ⊤
AreMargins (d ∷ dims) (m ∷ margins) = (d.chunk + 2 * m ≤ 2 ^ 48) × AreMargins dims margins
AreMargins _ _ = ⊥

abbrev pub IsLow : ℤ → Type 0
IsLow l = (negsuc (2 ^ 62 + 2 ^ 48) ≤ℤ l) × (l ≤ℤ pos (2 ^ 62))

abbrev pub AreLow : List ℤ → Type 0
AreLow = AllByRecursion IsLow

abbrev pub AreLengths : List ℕ → Type 0
AreLengths = AllByRecursion (λ n. 0 < n)

-- a length for each lowest number, and at most 2^48 places
pub record IsGrid (grid : Grid) : Type 0 where
  pub low : AreLow grid.low.items
  pub lengths : AreLengths grid.lengths.items
  pub each : length grid.low.items ≡ length grid.lengths.items
  pub places : volume grid.lengths.items ≤ 2 ^ 48

-- each number is at least the lowest one, and less than the length above it
abbrev pub is_in_grid : List ℤ → List ℕ → Coordinate → Bool
is_in_grid [] [] [] = true
is_in_grid (l ∷ lo) (n ∷ ns) (x ∷ c) = int_le l x && int_lt x (l +ℤ pos n) && is_in_grid lo ns c
is_in_grid _ _ _ = false
