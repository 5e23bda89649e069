-- Cells spread over their blocks.
use Rattle.std.specs.Prelude.{◌≡◌, ℕ, ℤ, true, if◌then◌else◌, int_lt, List, [], ◌∷◌, ◌++◌}
use Rattle.std.specs.Int.{w64, saturate_signed}
use Rattle.std.specs.List.{AllByRecursion, flat_map}
use Rattle.arrayvec.specs.ArrayVec.{ArrayVec}
use Rattle.cell_values.specs.declared.datum.Cell.{Cell}
use Rattle.cell_values.specs.declared.datum.Row.{Row}
use Rattle.cell_values.specs.declared.schema.Dimension.{Dimension}
use Rattle.array_rows.specs.Boxes.{by_pairs}
use Rattle.array_rows.specs.Rows.{Coordinate, placed}
use Rattle.logical_plan.specs.Places.{count_from, how_many}
use Rattle.array_geom.specs.Geometry.{ChunkNumber, chunk_of}
use Rattle.array_geom.specs.Link.{is_listed}
use Rattle.chunk_cells.specs.Inner.Numbers.{numbers_in}
use Rattle.exec_box.specs.Inner.Reached.{HaveCores}
use Rattle.logical_plan.specs.Shapes.{first_place, last_place, place_of}
use Rattle.shape_exec.specs.declared.blocks.Part.{Part}

-- the block of a place along a dimension, as far as 64 bits go
abbrev pub block_part : Dimension → ℕ → ℤ → Part
block_part d size x = record { first = saturate_signed w64 (first_place d size x); last = saturate_signed w64 (last_place d size x) }

abbrev pub parts_of : List Dimension → List ℕ → Coordinate → List Part
parts_of dims sizes c = by_pairs (λ f x. f x) (by_pairs block_part dims sizes) c

-- a cell at all coordinates that begin so and go on in these parts
abbrev pub spread_under : Cell → Coordinate → List Part → List Row
spread_under cell at [] = placed at cell ∷ []
spread_under cell at (p ∷ parts) = flat_map (λ x. spread_under cell (at ++ x ∷ []) parts) (count_from p.first (how_many p.first p.last))

-- each cell over its block
abbrev pub spread_all : List Dimension → List ℕ → List Row → List Row
spread_all dims sizes rows = flat_map (λ row. spread_under row.cell [] (parts_of dims sizes row.at.items)) rows

-- what was listed, and the chunks of the places of these rows
pub record AddsRows (dims : List Dimension) (rows : List Row) (old new : List (ArrayVec ℕ)) : Type 0 where
  pub kept : (k : ChunkNumber) → is_listed k (numbers_in old) ≡ true → is_listed k (numbers_in new) ≡ true
  pub reached : AllByRecursion (λ row. is_listed (chunk_of dims row.at.items) (numbers_in new) ≡ true) rows
  pub cores : HaveCores dims old → HaveCores dims new

-- the place whose block has a place, as far as 64 bits go; the first place for those before the low bound
abbrev pub place_from : Dimension → ℕ → ℤ → ℤ
place_from d size y = if int_lt y d.lo then d.lo else saturate_signed w64 (place_of d size y)

abbrev pub places_from : List Dimension → List ℕ → Coordinate → Coordinate
places_from dims sizes y = by_pairs (λ f x. f x) (by_pairs place_from dims sizes) y
