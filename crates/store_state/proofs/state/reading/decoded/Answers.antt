use Rattle.std.proofs.Common.{◌∙◌, ℕ, List, slice_index, ap, sym}
use Rattle.array_geom.specs.declared.chunk.Chunk.{Chunk}
use Rattle.chunk_rle.specs.Decoding.{Answers}
use Rattle.store_state.specs.Calls.{spelled_by}
use Rattle.store_state.proofs.Decodes.{told_wrong}
use Rattle.store_state.proofs.state.reading.decoded.Goals as goal

pub returns-in-Err-At-clause-spelled : goal.returns-in-Err-At-clause-spelled
returns-in-Err-At-clause-spelled c =
    let schema = c.args.schema.now in
    let entry = c.args.entry.now in
    let read = c.as_slice.result.now in
    let exact : Answers (λ (x : Chunk). x) c.decode.result read (spelled_by schema entry read) = c.decode.ensures.exact in
    let told = told_wrong c.decode.result c.in-Err-At.field-0 read (spelled_by schema entry read) c.in-Err-At.field-0-0 c.in-Err-At.is c.in-Err-At.field-0-is exact in (
      ap (λ (pages : List ℕ). slice_index pages 0) c.as_slice-in-Err-At.ensures,
      told.0,
      ap (spelled_by schema entry) (sym c.as_slice.ensures) ∙ told.1,
    )
