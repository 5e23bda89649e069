-- Coordinates further on in a row of a grid.
use Rattle.std.specs.Prelude.{◌≡◌, ℕ, ◌-◌, ◌<◌, ℤ, true, List, [], ◌∷◌, ◌++◌, length, take}
use Rattle.array_geom.specs.Inner.Ranges.{is_in_grid}
use Rattle.area_cells.specs.Inner.Stretches.{onward}

-- the last number of a coordinate so far on in its row, which is in the grid
pub record IsLast (low : List ℤ) (lengths : List ℕ) (at : List ℤ) (steps : ℕ) (number : ℤ) : Type 0 where
  pub some : 0 < length at
  pub number_is : take (length at - 1) at ++ number ∷ [] ≡ onward steps at
  pub inside : is_in_grid low lengths (onward steps at) ≡ true
