-- Cells of two arrays that are put into a chunk, and dimensions that share their chunks.
use Rattle.std.specs.Prelude.{◌≡◌, ℕ, ◌≤ℤ◌, List, [], ◌∷◌, ◌++◌, drop, ⊤}
use Rattle.cell_values.specs.declared.schema.Dimension.{Dimension}
use Rattle.array_geom.specs.declared.chunk.Chunk.{Chunk}
use Rattle.array_geom.specs.declared.grid.Grid.{Grid}
use Rattle.area_cells.specs.declared.finding.Found.{Found}
use Rattle.area_cells.specs.Found.{found_rows}
use Rattle.area_cells.specs.Inner.Filled.{IsFilled}
use Rattle.area_cells.specs.Inner.Merged.{Goes}

-- the chunk has the cells that were found
abbrev pub Holds : Grid → List Found → Chunk → Type 0
Holds grid made chunk = IsFilled grid.low.items grid.lengths.items (found_rows grid made) chunk

-- what is merged further, of the two that are put together
pub record MergesOn (grid : Grid) (left right made : List Found) (at_left at_right : ℕ) (new : Chunk) (at_left' at_right' : ℕ) : Type 0 where
  pub more : List Found
  pub holds : Holds grid more new
  pub goes : Goes grid left right made at_left at_right more at_left' at_right'

abbrev pub Puts : Grid → List Found → List Found → Chunk → ℕ → ℕ → Chunk → ℕ → ℕ → Type 0
Puts grid left right old at_left at_right new at_left' at_right' = (made : List Found) → Holds grid made old → MergesOn grid left right made at_left at_right new at_left' at_right'

abbrev pub PutsRest : Grid → List Found → ℕ → Chunk → Chunk → Type 0
PutsRest grid from start old new = (made : List Found) → Holds grid made old → Holds grid (made ++ drop start from) new

-- the chunks of one number begin and end at the same places, as far as the others reach
abbrev pub ShareChunks : List Dimension → List Dimension → Type 0
ShareChunks [] [] = ⊤
ShareChunks (s ∷ source) (t ∷ target) = (s.lo ≡ t.lo) × (s.chunk ≡ t.chunk) × (s.hi ≤ℤ t.hi) × ShareChunks source target
ShareChunks _ _ = ⊥
