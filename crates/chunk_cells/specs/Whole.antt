-- Arrays that stand for something, and what their chunks are then.
use Rattle.std.specs.Prelude.{ℕ, List}
use Rattle.std.specs.List.{AllByRecursion}
use Rattle.cell_values.specs.declared.schema.Dimension.{Dimension}
use Rattle.array_rows.specs.Arrays.{Meant}
use Rattle.array_rows.specs.Boxes.{within}
use Rattle.array_rows.specs.Rows.{IsRising}
use Rattle.array_geom.specs.Geometry.{core}
use Rattle.array_geom.specs.Link.{Is, chunk_rows}
use Rattle.array_geom.specs.declared.chunk.Chunk.{Chunk}
use Rattle.array_geom.specs.declared.chunk.ChunkedArray.{ChunkedArray}

-- the array stands for something: for rows, or for what broke it
abbrev pub IsArray : ChunkedArray → Type 0
IsArray array = (meant : Meant) × Is array meant

-- the rows of each chunk's core rise
abbrev pub CoresRise : List Dimension → List ℕ → List Chunk → Type 0
CoresRise dims margins = AllByRecursion (λ chunk. IsRising (within (core dims chunk.at.items) (chunk_rows dims margins chunk)))
