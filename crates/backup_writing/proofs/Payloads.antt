-- The payload of a chunk that a source gave.
use Rattle.std.proofs.Common.{◌≡◌, ℕ, List, ap, ◌∙◌}
use Rattle.arrayvec.specs.ArrayVec.{ArrayVec}
use Rattle.cell_values.specs.declared.datum.Row.{Row}
use Rattle.cell_values.specs.declared.schema.Schema.{Schema}
use Rattle.array_geom.specs.declared.chunk.Chunk.{Chunk}
use Rattle.array_geom.specs.Geometry.{overlaps}
use Rattle.array_geom.specs.Link.{IsPart}
use Rattle.chunk_rle.specs.Chunks.{spelling}
use Rattle.chunk_source.specs.Source.{IsStored}
use Rattle.backup_format.proofs.CoreChunks.{part_stored}
use Rattle.backup_format.specs.Pieces.{stored_chunk, stored_payload}

pub given_payload : (schema : Schema) (at : ArrayVec ℕ) (rows : List Row) (chunk : Chunk) (bytes : List ℕ) → IsStored schema at chunk → IsPart schema.dimensions (overlaps schema.dimensions) rows chunk
    → bytes ≡ spelling schema.attributes chunk → bytes ≡ stored_payload schema rows at.items
given_payload schema at rows chunk bytes stored part spelled =
    let is : chunk ≡ stored_chunk schema rows chunk.at.items = part_stored schema rows chunk stored.valid.framed part in
    spelled ∙ ap (spelling schema.attributes) is ∙ ap (λ (k : ArrayVec ℕ). stored_payload schema rows k.items) stored.number
