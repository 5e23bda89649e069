-- Chunks that are written, before their pages are known.
use Rattle.std.proofs.Common.{◌≡◌, ℕ, suc, List, [], ◌∷◌, length, map, refl, ap}
use Rattle.std.specs.List.{AllByRecursion}
use Rattle.cell_values.specs.declared.schema.Schema.{Schema}
use Rattle.array_geom.specs.declared.chunk.Changed.{Changed}
use Rattle.array_geom.specs.declared.chunk.Chunk.{Chunk}
use Rattle.array_geom.specs.Link.{NumbersRise, numbers}
use Rattle.chunk_rle.specs.Chunks.{spelling}
use Rattle.page_file.specs.Commits.{IsBlobSized}
use Rattle.commit_pages.specs.Versions.{drafted, draft, IsWritten}
use Rattle.commit_pages.proofs.Blobs.{drafted_is_sized}
use Rattle.commit_pages.proofs.Directories.{draft_rises}

all_sized : (schema : Schema) (chunks : List Chunk) → AllByRecursion IsBlobSized (map (λ chunk. drafted (spelling schema.attributes chunk)) chunks)
all_sized schema [] = tt
all_sized schema (chunk ∷ chunks) = (drafted_is_sized (spelling schema.attributes chunk), all_sized schema chunks)

as_many : (schema : Schema) (chunks : List Chunk) → length (map (λ chunk. drafted (spelling schema.attributes chunk)) chunks) ≡ length (map (λ chunk. chunk.at) chunks)
as_many schema [] = refl
as_many schema (chunk ∷ chunks) = ap suc (as_many schema chunks)

pub is_written : (birth : ℕ) (changed : Changed) → NumbersRise (numbers changed.chunks) → IsWritten (draft birth changed)
is_written birth changed rise = record {
  rising = draft_rises changed birth rise;
  each = as_many changed.schema changed.chunks;
  sized = all_sized changed.schema changed.chunks;
}
