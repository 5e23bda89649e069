-- Places that stand in one row of a grid.
use Rattle.std.specs.Prelude.{◌≡◌, ℕ, ◌+◌, ◌-◌, ◌<◌, ◌≤◌, ℤ, pos, ◌+ℤ◌, Bool, true, ◌&&◌, List, [], ◌∷◌, length}
use Rattle.cell_values.specs.declared.schema.Bounds.{Bounds}
use Rattle.array_rows.specs.Boxes.{is_between, is_inside}
use Rattle.array_rows.specs.Rows.{Coordinate}
use Rattle.array_geom.specs.declared.grid.Grid.{Grid}
use Rattle.array_geom.specs.Geometry.{coordinate_in, volume}
use Rattle.array_geom.specs.Inner.Ranges.{is_in_grid}
use Rattle.area_cells.specs.declared.stretches.Stretch.{Stretch}

-- a coordinate so many numbers further on in its row
abbrev pub onward : ℕ → List ℤ → List ℤ
onward d [] = []
onward d (x ∷ []) = (x +ℤ pos d) ∷ []
onward d (x ∷ y ∷ at) = x ∷ onward d (y ∷ at)

-- the row of a coordinate goes on so far in a grid
abbrev pub HasRoom : List ℤ → List ℕ → Coordinate → ℕ → Type 0
HasRoom low lengths at room = ((d : ℕ) → d ≤ room → is_in_grid low lengths (onward d at) ≡ true) × (length at ≡ 0 → room ≡ 0)

-- so far all coordinates are in a box where the first is
abbrev pub KeepsSide : List ℤ → List ℤ → Coordinate → ℕ → Type 0
KeepsSide lo hi at steps = (d : ℕ) → d ≤ steps → is_between lo hi (onward d at) ≡ is_between lo hi at

-- the coordinate at a place
abbrev pub place_of : Grid → ℕ → Coordinate
place_of grid p = coordinate_in grid.low.items grid.lengths.items p

-- whether it is in both boxes
abbrev pub in_both : Grid → Bounds → Bounds → ℕ → Bool
in_both source core area p = is_inside core (place_of source p) && is_inside area (place_of source p)

pub record IsStretch (source target : Grid) (core area : Bounds) (stretch : Stretch) : Type 0 where
  pub sides : (p : ℕ) → stretch.from ≤ p → p ≤ stretch.last → in_both source core area p ≡ stretch.inside
  pub there_inside : stretch.inside ≡ true → (p : ℕ) → stretch.from ≤ p → p ≤ stretch.last
      → stretch.there + (p - stretch.from) < volume target.lengths.items
  pub there_same : stretch.inside ≡ true → (p : ℕ) → stretch.from ≤ p → p ≤ stretch.last
      → place_of target (stretch.there + (p - stretch.from)) ≡ place_of source p
