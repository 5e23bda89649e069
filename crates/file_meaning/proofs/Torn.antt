-- A new base that is torn to format 1, and payloads that were written.
use Rattle.std.proofs.Common.{ℕ, List, refl, ◌∙◌, ap}
use Rattle.page_file.specs.Pages.{page_size, blob}
use Rattle.page_file.proofs.PageLaws.{blob_read}
use Rattle.chunk_rle.specs.Frames.{frame_of}
use Rattle.chunk_rle.specs.Chunks.{chunk_payload, spelling}
use Rattle.file_meaning.specs.Standing.{stored_chunk}
use Rattle.file_meaning.proofs.Fewer.{torn_root}
use Rattle.file_meaning.proofs.Payloads.{spelled_is_read}
use Rattle.file_meaning.specs.NextLaws.{TornBasesStandAlike, WrittenPayloadsAreHeld}

pub torn_alike : TornBasesStandAlike
torn_alike file side root db found stands = record { finds = torn_root file side root found stands.finds; database = stands.database; holds = stands.holds }

pub written_held : WrittenPayloadsAreHeld
written_held file schema rows entry stored lies size =
    let chunk = stored_chunk schema rows entry.at.items in
    let bytes = spelling schema.attributes chunk in
    let read = blob_read file entry.pages bytes lies.held lies.enough in (
      read.0,
      ap (λ (n : ℕ). chunk_payload (frame_of schema entry.at.items) entry.at schema.attributes (blob page_size file entry.pages n)) size
          ∙ ap (λ (bs : List ℕ). chunk_payload (frame_of schema entry.at.items) entry.at schema.attributes bs) read.1
          ∙ spelled_is_read schema bytes chunk stored refl,
    )
