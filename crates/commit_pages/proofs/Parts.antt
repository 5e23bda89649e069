-- Payloads in a file are their parts of the rows.
use Rattle.std.proofs.Common.{◌∙◌, ℕ, ◌≤◌, List, [], ◌∷◌, length, map, take, drop, Ok, refl, ap}
use Rattle.std.specs.List.{AllByRecursion}
use Rattle.std.proofs.lemmas.List.{length-take-le}
use Rattle.cell_values.specs.declared.datum.Row.{Row}
use Rattle.cell_values.specs.declared.schema.Schema.{Schema}
use Rattle.array_rows.specs.Boxes.{by_pairs}
use Rattle.array_geom.specs.declared.chunk.Chunk.{Chunk}
use Rattle.array_geom.specs.Geometry.{overlaps}
use Rattle.array_geom.specs.Link.{IsPart}
use Rattle.chunk_rle.specs.Chunks.{spelling}
use Rattle.chunk_rle.specs.Stored.{IsStored}
use Rattle.page_chain.specs.Pages.{page_size, blob}
use Rattle.page_chain.proofs.PageLaws.{blob_read}
use Rattle.file_meaning.proofs.Payloads.{part_stored, spelled_is_read}
use Rattle.page_file.specs.Commits.{pages_of, HoldsBlobs}
use Rattle.commit_pages.specs.Laws.{IsThere, WrittenAreThere}
use Rattle.commit_pages.specs.Versions.{blob_count, all_placed, drafted, entry_of}
use Rattle.commit_pages.proofs.Blobs.{both_fit, drafted_is_sized}

pub all_there : (file : List ℕ) (schema : Schema) (rows : List Row) (birth : ℕ) (chunks : List Chunk) (pages : List ℕ) → AllByRecursion (IsStored schema) chunks
    → AllByRecursion (IsPart schema.dimensions (overlaps schema.dimensions) rows) chunks
    → length (pages_of (map (λ chunk. drafted (spelling schema.attributes chunk)) chunks)) ≤ length pages
    → HoldsBlobs file (all_placed pages (map (λ chunk. drafted (spelling schema.attributes chunk)) chunks))
    → AllByRecursion (IsThere file schema rows birth) (by_pairs (entry_of birth) (map (λ chunk. chunk.at) chunks) (all_placed pages (map (λ chunk. drafted (spelling schema.attributes chunk)) chunks)))
all_there file schema rows birth [] pages stored parts le holds = tt
all_there file schema rows birth (chunk ∷ chunks) pages stored parts le holds =
    let bytes = spelling schema.attributes chunk in
    let n = blob_count bytes in
    let fit = both_fit (drafted bytes) (map (λ (c : Chunk). drafted (spelling schema.attributes c)) chunks) pages (drafted_is_sized bytes) le in
    let read = blob_read file (take n pages) bytes holds.0 (length-take-le n pages fit.0) in (
      record {
        core = stored.0.valid.framed.core;
        written = refl;
        pages = read.0;
        part = spelled_is_read schema (blob page_size file (take n pages) (length bytes)) chunk stored.0 read.1 ∙ ap Ok (part_stored schema rows chunk stored.0.valid.framed parts.0);
      },
      all_there file schema rows birth chunks (drop n pages) stored.1 parts.1 fit.1 holds.1,
    )

pub written_are_there : WrittenAreThere
written_are_there file changed rows birth pages valid parts le holds = all_there file changed.schema rows birth changed.chunks pages valid.stored parts le holds
