-- What a chunk of an array holds.
use Rattle.std.specs.Prelude.{◌≡◌, ℕ, ◌<◌, List, [], ◌∷◌, length, IsTrue, ⊤}
use Rattle.std.specs.List.{AllByRecursion, list_any}
use Rattle.array_rows.specs.Schema.{Schema}
use Rattle.array_rows.specs.Cells.{IsCellOf}
use Rattle.array_geom.specs.declared.chunk.Chunk.{Chunk}
use Rattle.array_rows.specs.Boxes.{is_inside, bounds_of}
use Rattle.array_geom.specs.Geometry.{HasFrame, core, coordinate_at, frame_lengths, volume}

-- each number is below all later ones
abbrev pub AreRising : List ℕ → Type 0
AreRising [] = ⊤
AreRising (p ∷ ps) = AllByRecursion (λ later. p < later) ps × AreRising ps

-- a chunk for a schema and margins: as many cells as positions, which rise, lie in the frame and within the bounds, one of them
-- at least in the core; and cells of the schema
pub record IsChunk (schema : Schema) (margins : List ℕ) (chunk : Chunk) : Type 0 where
  pub framed : HasFrame schema margins chunk.at.items
  pub each : length chunk.cells ≡ length chunk.positions
  pub rising : AreRising chunk.positions
  pub in_frame : AllByRecursion (λ p. p < volume (frame_lengths schema.dimensions margins)) chunk.positions
  pub in_bounds : AllByRecursion (λ p. IsTrue
      (is_inside (bounds_of schema.dimensions) (coordinate_at schema.dimensions margins chunk.at.items p))) chunk.positions
  pub in_core : IsTrue (list_any (λ p. is_inside (core schema.dimensions chunk.at.items)
      (coordinate_at schema.dimensions margins chunk.at.items p)) chunk.positions)
  pub cells : AllByRecursion (IsCellOf schema.attributes) chunk.cells
