-- A chunk that is being made of the cells of two.
use Rattle.std.specs.Prelude.{◌≡◌, ℕ, ◌<◌, ℤ, List, ◌++◌, length, take, drop}
use Rattle.std.specs.List.{AllByRecursion}
use Rattle.cell_values.specs.declared.datum.Row.{Row}
use Rattle.array_geom.specs.declared.chunk.Chunk.{Chunk}
use Rattle.array_geom.specs.Geometry.{volume}
use Rattle.array_geom.specs.Link.{rows_in}
use Rattle.array_geom.specs.Inner.Ranges.{AreLengths}
use Rattle.chunk_cells.specs.Inner.Merging.{IsMergedOn}

-- a chunk with the cell at an index of another, and with those from there on
pub record HasNext (from : Chunk) (index : ℕ) (old new : Chunk) : Type 0 where
  pub number : new.at ≡ old.at
  pub positions : new.positions ≡ old.positions ++ take 1 (drop index from.positions)
  pub cells : new.cells ≡ old.cells ++ take 1 (drop index from.cells)

pub record HasRest (from : Chunk) (start : ℕ) (old new : Chunk) : Type 0 where
  pub number : new.at ≡ old.at
  pub positions : new.positions ≡ old.positions ++ drop start from.positions
  pub cells : new.cells ≡ old.cells ++ drop start from.cells

-- a box whose places the positions are
pub record ArePlaces (low : List ℤ) (lengths : List ℕ) (positions : List ℕ) : Type 0 where
  pub lengths_of : AreLengths lengths
  pub each : length low ≡ length lengths
  pub in_box : AllByRecursion (λ p. p < volume lengths) positions

-- the cells of a chunk from an index on, as rows of a box
abbrev pub rows_from : List ℤ → List ℕ → Chunk → ℕ → List Row
rows_from low lengths chunk start = rows_in low lengths (drop start chunk.positions) (drop start chunk.cells)

-- with what is left of both the chunk stands for the same rows as before, in each box
pub record Goes (new old made : Chunk) (at_new at_old : ℕ) (made' : Chunk) (at_new' at_old' : ℕ) : Type 0 where
  pub number : made'.at ≡ made.at
  pub as_many : length made.cells ≡ length made.positions → length made'.cells ≡ length made'.positions
  pub in_box : (n : ℕ) → AllByRecursion (λ p. p < n) new.positions → AllByRecursion (λ p. p < n) old.positions
      → AllByRecursion (λ p. p < n) made.positions → AllByRecursion (λ p. p < n) made'.positions
  pub rows : (low : List ℤ) (lengths : List ℕ) → ArePlaces low lengths new.positions
      → ArePlaces low lengths old.positions → length made.cells ≡ length made.positions
      → IsMergedOn (rows_in low lengths made.positions made.cells) (rows_from low lengths new at_new) (rows_from low lengths old at_old)
      (rows_in low lengths made'.positions made'.cells) (rows_from low lengths new at_new') (rows_from low lengths old at_old')
