-- Chunks by their rising numbers, whose cells have places.
use Rattle.std.specs.Prelude.{◌≡◌, ℕ, ◌≤◌, ◌^◌, List, length, None}
use Rattle.std.specs.List.{AllByRecursion}
use Rattle.cell_values.specs.declared.schema.Schema.{Schema}
use Rattle.cell_values.specs.Schemas.{IsValid}
use Rattle.array_geom.specs.declared.chunk.Chunk.{Chunk}
use Rattle.array_geom.specs.declared.chunk.ChunkedArray.{ChunkedArray}
use Rattle.array_geom.specs.Geometry.{HasFrame, frame_lengths, volume}
use Rattle.array_geom.specs.Link.{NumbersRise, numbers}
use Rattle.array_parts.specs.Made.{IsPlaced}

-- a chunk of an array, whose cells have places in its frame
pub record HasPlaces (schema : Schema) (margins : List ℕ) (chunk : Chunk) : Type 0 where
  pub framed : HasFrame schema margins chunk.at.items
  pub placed : IsPlaced schema.dimensions margins chunk

-- chunks for a schema and margins by their rising numbers, whatever they hold
pub record HavePlaces (schema : Schema) (margins : List ℕ) (chunks : List Chunk) : Type 0 where
  pub valid : IsValid schema
  pub each : length margins ≡ length schema.dimensions
  pub places : volume (frame_lengths schema.dimensions margins) ≤ 2 ^ 48
  pub rising : NumbersRise (numbers chunks)
  pub sized : AllByRecursion (λ k. length k ≡ length schema.dimensions) (numbers chunks)
  pub all : AllByRecursion (HasPlaces schema margins) chunks

-- an array that is not broken has such chunks
abbrev pub IsSound : ChunkedArray → Type 0
IsSound array = array.broken ≡ None → HavePlaces array.schema array.margins.items array.chunks
