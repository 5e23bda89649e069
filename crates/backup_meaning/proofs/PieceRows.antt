-- Pieces whose chunks are stored and rise are of the rows of their cores.
use Rattle.std.proofs.Common.{◌≡◌, ◌∙◌, ℕ, List, map, length, sym, ap, subst}
use Rattle.std.specs.List.{AllByRecursion}
use Rattle.cell_values.specs.declared.datum.Row.{Row}
use Rattle.cell_values.specs.declared.schema.Schema.{Schema}
use Rattle.cell_values.specs.Schemas.{IsValid}
use Rattle.array_rows.specs.Arrays.{AreRowsOf}
use Rattle.array_geom.specs.declared.chunk.Chunk.{Chunk}
use Rattle.array_geom.specs.Geometry.{ChunkNumber}
use Rattle.array_geom.specs.Link.{NumbersRise, has_cell, is_listed, numbers}
use Rattle.logical_plan.specs.Typing.{AreSound}
use Rattle.chunk_rle.specs.Stored.{IsStored}
use Rattle.backup_format.specs.Pieces.{Piece, rising_numbers}
use Rattle.backup_format.specs.Table.{chunk_of_piece, rows_of}
use Rattle.backup_format.proofs.RisingNumbers.{AreSized, the_only}
use Rattle.backup_meaning.proofs.Cores.{cores_listed, cores_rows, cores_sound}

abbrev pub own_numbers : List Piece → List ChunkNumber
own_numbers pieces = map (λ (p : Piece). p.at) pieces

-- rows of an array, whose chunks have these numbers
pub record AreOfRows (schema : Schema) (ks : List ChunkNumber) (rows : List Row) : Type 0 where
  pub are : AreRowsOf schema rows
  pub sound : AreSound schema rows
  pub listed : (k : ChunkNumber) → length k ≡ length schema.dimensions → is_listed k ks ≡ has_cell schema.dimensions rows k
  pub only : ks ≡ rising_numbers schema.dimensions rows

pub are_of_rows : (schema : Schema) (pieces : List Piece) (ks : List ChunkNumber) → IsValid schema → AllByRecursion (IsStored schema) (map (chunk_of_piece schema) pieces) → numbers (map (chunk_of_piece schema) pieces) ≡ ks
    → NumbersRise ks → AreSized (length schema.dimensions) ks → AreOfRows schema ks (rows_of schema pieces)
unfolding rows_of
are_of_rows schema pieces ks valid stored their rise sized =
    let chunks : List Chunk = map (chunk_of_piece schema) pieces in
    let are : AreRowsOf schema (rows_of schema pieces) = cores_rows schema chunks valid (subst NumbersRise (sym their) rise) stored in
    let listed : (k : ChunkNumber) → length k ≡ length schema.dimensions → is_listed k ks ≡ has_cell schema.dimensions (rows_of schema pieces) k =
    λ k long. ap (is_listed k) (sym their) ∙ sym (cores_listed schema k chunks long stored) in
    record { are = are; sound = cores_sound schema chunks stored; listed = listed; only = the_only schema (rows_of schema pieces) ks are rise sized listed }
