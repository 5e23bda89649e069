-- The rows of chunks' cores one chunk after the other, and chunks without margins.
use Rattle.std.specs.Prelude.{ℕ, pos, ◌<ℤ◌, ◌≡◌, List, [], ◌∷◌, ◌++◌, slice_index_or, ⊤}
use Rattle.std.specs.List.{AllByRecursion}
use Rattle.std.specs.declared.cmp.Ordering.TheVariants.{Equal}
use Rattle.cell_values.specs.declared.datum.Row.{Row}
use Rattle.cell_values.specs.declared.schema.Dimension.{Dimension}
use Rattle.array_rows.specs.Boxes.{within}
use Rattle.array_rows.specs.Rows.{row_major}
use Rattle.array_geom.specs.declared.chunk.Chunk.{Chunk}
use Rattle.array_geom.specs.Geometry.{core}
use Rattle.array_geom.specs.Link.{chunk_rows}
use Rattle.logical_plan.specs.Ordered.{line_of}

abbrev pub rows_of_core : List Dimension → List ℕ → Chunk → List Row
rows_of_core dims margins chunk = within (core dims chunk.at.items) (chunk_rows dims margins chunk)

-- not in row-major order, where chunks lie beside one another
abbrev pub by_chunk : List Dimension → List ℕ → List Chunk → List Row
by_chunk dims margins [] = []
by_chunk dims margins (chunk ∷ chunks) = rows_of_core dims margins chunk ++ by_chunk dims margins chunks

-- if two rows are on one line, the second one is behind the first
abbrev pub ComesAfter : ℕ → Row → Row → Type 0
ComesAfter n row later = row_major (line_of n row.at.items) (line_of n later.at.items) ≡ Equal
    → slice_index_or row.at.items n (pos 0) <ℤ slice_index_or later.at.items n (pos 0)

-- the rows of each line go along it, in the order in which they stand
abbrev pub GoAlong : ℕ → List Row → Type 0
GoAlong n [] = ⊤
GoAlong n (row ∷ rows) = AllByRecursion (ComesAfter n row) rows × GoAlong n rows
