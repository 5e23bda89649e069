-- Laws of boxes, cores, frames and places.
use Rattle.std.specs.Prelude.{◌≡◌, ℕ, ◌<◌, ◌&&◌, List, length, IsTrue}
use Rattle.array_rows.specs.Row.{Row}
use Rattle.array_rows.specs.Bounds.{Bounds}
use Rattle.array_rows.specs.Schema.{Schema}
use Rattle.array_rows.specs.Schemas.{IsValid}
use Rattle.array_rows.specs.Rows.{Coordinate}
use Rattle.array_rows.specs.Boxes.{is_inside, meet, bounds_of}
use Rattle.array_geom.specs.declared.chunk.ChunkedArray.{ChunkedArray}
use Rattle.array_geom.specs.Areas.{HasDimensions, holds_some, moved_by, shifted}
use Rattle.array_geom.specs.Geometry.{ChunkNumber, chunk_of, core, has_core, frame, frame_lengths, volume, coordinate_at, position_of, HasFrame}
use Rattle.array_geom.specs.Link.{core_rows, HoldsRows}

-- what two boxes share holds what both hold
abbrev pub MeetHoldsBoth : Type 0
MeetHoldsBoth = (a b : Bounds) (c : Coordinate) → HasDimensions a c → HasDimensions b c → is_inside (meet a b) c ≡ (is_inside a c && is_inside b c)

-- a box that is moved holds what it held, moved
abbrev pub ShiftedHoldsMoved : Type 0
ShiftedHoldsMoved = (area : Bounds) (by c : Coordinate) → HasDimensions area c → length by ≡ length c
    → is_inside (shifted area by) (moved_by by c) ≡ is_inside area c

-- a box has a coordinate exactly where no low number is above its high one
abbrev pub LowestIsInside : Type 0
LowestIsInside = (area : Bounds) → IsTrue (holds_some area) → IsTrue (is_inside area area.lo.items)

abbrev pub WhatHoldsIsOrdered : Type 0
WhatHoldsIsOrdered = (area : Bounds) (c : Coordinate) → IsTrue (is_inside area c) → IsTrue (holds_some area)

-- a coordinate within the bounds lies in the core of its chunk, and of no other
abbrev pub CoresCover : Type 0
CoresCover = (schema : Schema) (c : Coordinate) → IsValid schema → IsTrue (is_inside (bounds_of schema.dimensions) c)
    → IsTrue (has_core schema.dimensions (chunk_of schema.dimensions c)) × IsTrue (is_inside (core schema.dimensions (chunk_of schema.dimensions c)) c)

abbrev pub CoresLieApart : Type 0
CoresLieApart = (schema : Schema) (k : ChunkNumber) (c : Coordinate) → IsValid schema → length k ≡ length schema.dimensions
    → IsTrue (is_inside (core schema.dimensions k) c) → k ≡ chunk_of schema.dimensions c

-- a core lies within the bounds, and in its frame
abbrev pub CoreIsWithinBounds : Type 0
CoreIsWithinBounds = (schema : Schema) (k : ChunkNumber) (c : Coordinate) → IsTrue (has_core schema.dimensions k)
    → IsTrue (is_inside (core schema.dimensions k) c) → IsTrue (is_inside (bounds_of schema.dimensions) c)

abbrev pub CoreIsInFrame : Type 0
CoreIsInFrame = (schema : Schema) (margins : List ℕ) (k : ChunkNumber) (c : Coordinate) → length margins ≡ length schema.dimensions
    → IsTrue (is_inside (core schema.dimensions k) c) → IsTrue (is_inside (frame schema.dimensions margins k) c)

-- places and coordinates of a frame are one another's
abbrev pub PlaceOfCoordinate : Type 0
PlaceOfCoordinate = (schema : Schema) (margins : List ℕ) (k : ChunkNumber) (c : Coordinate)
    → HasFrame schema margins k → IsTrue (is_inside (frame schema.dimensions margins k) c)
    → (position_of schema.dimensions margins k c < volume (frame_lengths schema.dimensions margins))
    × (coordinate_at schema.dimensions margins k (position_of schema.dimensions margins k c) ≡ c)

abbrev pub CoordinateAtPlace : Type 0
CoordinateAtPlace = (schema : Schema) (margins : List ℕ) (k : ChunkNumber) (p : ℕ)
    → HasFrame schema margins k → p < volume (frame_lengths schema.dimensions margins)
    → IsTrue (is_inside (frame schema.dimensions margins k) (coordinate_at schema.dimensions margins k p))
    × (position_of schema.dimensions margins k (coordinate_at schema.dimensions margins k p) ≡ p)

-- the core cells of an array's chunks, put together, are its rows
abbrev pub ChunksHaveTheirRows : Type 0
ChunksHaveTheirRows = (schema : Schema) (array : ChunkedArray) (rows : List Row) → HoldsRows schema array rows
    → core_rows schema.dimensions array.margins.items array.chunks ≡ rows

-- so chunks are those of one array alone
abbrev pub ChunksHaveOneMeaning : Type 0
ChunksHaveOneMeaning = (schema : Schema) (array : ChunkedArray) (a b : List Row) → HoldsRows schema array a → HoldsRows schema array b → a ≡ b
