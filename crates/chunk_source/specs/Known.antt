-- What is known of a version of an array by some of its chunks.
use Rattle.std.specs.Prelude.{ℕ, Bool, List}
use Rattle.std.specs.List.{list_any}
use Rattle.arrayvec.specs.ArrayVec.{ArrayVec}
use Rattle.cell_values.specs.declared.datum.Row.{Row}
use Rattle.cell_values.specs.declared.schema.Bounds.{Bounds}
use Rattle.cell_values.specs.declared.schema.Dimension.{Dimension}
use Rattle.array_rows.specs.Boxes.{is_inside}
use Rattle.array_rows.specs.Rows.{Coordinate, rows_where}
use Rattle.array_geom.specs.Geometry.{frame, overlaps}
use Rattle.array_geom.specs.Link.{Is}
use Rattle.array_geom.specs.declared.chunk.ChunkedArray.{ChunkedArray}
use Rattle.logical_plan.specs.Meaning.{Database, version_rows, whole}
use Rattle.logical_plan.specs.declared.parts.Leaf.{Leaf}
use Rattle.plan_needs.specs.Wanted.{wanted_of}
use Rattle.chunk_source.specs.Source.{HasArray}

-- a coordinate lies in the frame of one of these chunks
abbrev pub is_framed : List Dimension → List (ArrayVec ℕ) → Coordinate → Bool
is_framed dims chunks c = list_any (λ at. is_inside (frame dims (overlaps dims) at.items) c) chunks

-- the rows that these chunks tell: those in their frames
abbrev pub known : List Dimension → List (ArrayVec ℕ) → List Row → List Row
known dims chunks = rows_where (is_framed dims chunks)

-- the rows of a version that its wanted chunks tell
abbrev pub known_for : Leaf → Bounds → List (ArrayVec ℕ) → List Row → List Row
known_for leaf area stored rows = known leaf.schema.dimensions (wanted_of leaf.schema.dimensions area stored) rows

-- a leaf in a database: these are the chunks of its array, and this is the array of the rows that the wanted ones tell
pub record IsPartIn (db : Database) (leaf : Leaf) (area : Bounds) (stored : List (ArrayVec ℕ)) (array : ChunkedArray) : Type 0 where
  pub stored_is : HasArray leaf (version_rows db leaf.name leaf.version) stored
  pub known_is : Is array (whole leaf.schema (known_for leaf area stored (version_rows db leaf.name leaf.version)))
