-- The groups of aggregates and of blocks.
use Rattle.std.specs.Prelude.{ℕ, pos, List, [], ◌∷◌}
use Rattle.cell_values.specs.declared.datum.Row.{Row}
use Rattle.cell_values.specs.declared.schema.Dimension.{Dimension}
use Rattle.array_rows.specs.Boxes.{by_pairs, within}
use Rattle.array_rows.specs.Rows.{Coordinate}
use Rattle.array_geom.specs.declared.chunk.Chunk.{Chunk}
use Rattle.array_geom.specs.Geometry.{core}
use Rattle.array_geom.specs.Link.{chunk_rows}
use Rattle.logical_plan.specs.BoxOps.{numbers_at}
use Rattle.logical_plan.specs.Groups.{block}
use Rattle.group_rows.specs.Sets.{Sets, sets_by, one_set}

-- the cells of a chunk's core
abbrev pub core_of : List Dimension → List ℕ → Chunk → List Row
core_of dims margins chunk = within (core dims chunk.at.items) (chunk_rows dims margins chunk)

-- without names all cells are one group at 0, else those that agree in the named dimensions
abbrev pub aggregate_sets : List ℕ → List Row → Sets
aggregate_sets [] rows = one_set (pos 0 ∷ []) rows
aggregate_sets (d ∷ places) rows = sets_by (numbers_at (d ∷ places)) rows

-- the block of each number, counted from the low bound of its dimension
abbrev pub block_at : List Dimension → List ℕ → Coordinate → Coordinate
block_at dims sizes c = by_pairs (λ b x. b x) (by_pairs (λ d size. block d.lo size) dims sizes) c

-- the cells of each block
abbrev pub regrid_sets : List Dimension → List ℕ → List Row → Sets
regrid_sets dims sizes rows = sets_by (block_at dims sizes) rows
