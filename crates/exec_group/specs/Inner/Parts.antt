-- The groups of chunks, part by part.
use Rattle.std.specs.Prelude.{ℕ, ◌+◌, ◌≤◌, Bool, true, false, List, [], ◌∷◌, length, map}
use Rattle.cell_values.specs.declared.schema.Dimension.{Dimension}
use Rattle.array_geom.specs.declared.chunk.Chunk.{Chunk}
use Rattle.group_rows.specs.Inner.Keys.{core_of, aggregate_sets, regrid_sets}
use Rattle.group_rows.specs.Counts.{cells_in}
use Rattle.group_rows.specs.declared.rows.groups.Groups.{Groups}
use Rattle.group_rows.specs.Grouped.{AreGroupsOf}
use Rattle.group_rows.specs.Sets.{Sets}
use Rattle.logical_plan.specs.declared.parts.Aggregate.{Aggregate}

-- the groups of the cells of a chunk's core
pub record IsPartOf (gs : List Aggregate) (places : List ℕ) (dims : List Dimension) (margins : List ℕ) (chunk : Chunk) (part : Groups) : Type 0 where
  pub groups : AreGroupsOf gs (aggregate_sets places (core_of dims margins chunk)) part.groups
  pub cells : cells_in part.groups ≤ length (core_of dims margins chunk)

-- the sets of cells of each chunk's core
abbrev pub sets_of : List ℕ → List Dimension → List ℕ → List Chunk → List Sets
sets_of places dims margins chunks = map (λ chunk. aggregate_sets places (core_of dims margins chunk)) chunks

-- how many cells chunks hold, those of their margins too
abbrev pub cells_held : List Chunk → ℕ
cells_held [] = 0
cells_held (chunk ∷ chunks) = length chunk.cells + cells_held chunks

-- without names each part has a group, so there has to be a part
abbrev pub has_parts : List ℕ → List Chunk → Bool
has_parts [] [] = false
has_parts [] (chunk ∷ chunks) = true
has_parts (place ∷ places) chunks = true

-- the same by blocks
pub record IsBlockPartOf (gs : List Aggregate) (sizes : List ℕ) (dims : List Dimension) (margins : List ℕ) (chunk : Chunk) (part : Groups) : Type 0 where
  pub groups : AreGroupsOf gs (regrid_sets dims sizes (core_of dims margins chunk)) part.groups
  pub cells : cells_in part.groups ≤ length (core_of dims margins chunk)

abbrev pub block_sets_of : List ℕ → List Dimension → List ℕ → List Chunk → List Sets
block_sets_of sizes dims margins chunks = map (λ chunk. regrid_sets dims sizes (core_of dims margins chunk)) chunks
