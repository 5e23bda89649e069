-- The box whose rows make a chunk wanted.
use Rattle.std.specs.Prelude.{ℕ, List}
use Rattle.cell_values.specs.declared.schema.Bounds.{Bounds}
use Rattle.cell_values.specs.declared.schema.Dimension.{Dimension}
use Rattle.array_rows.specs.Boxes.{bounds_of, corners, meet}
use Rattle.array_geom.specs.Geometry.{ChunkNumber, chunk_of, frame}

-- the places of the array in a chunk's frame
abbrev pub places_near : List Dimension → List ℕ → ChunkNumber → Bounds
places_near dims margins k = meet (frame dims margins k) (bounds_of dims)

-- from the frame of the first chunk that has one of them in its core to that of the last: all frames that meet the chunk's core
abbrev pub reach : List Dimension → List ℕ → ChunkNumber → Bounds
reach dims margins k = corners
    (frame dims margins (chunk_of dims (places_near dims margins k).lo.items)).lo.items
    (frame dims margins (chunk_of dims (places_near dims margins k).hi.items)).hi.items
