use Rattle.std.proofs.Common.{List, ℕ, sym, subst}
use Rattle.arrayvec.specs.ArrayVec.{ArrayVec}
use Rattle.chunk_cells.specs.Frames.{AreFramed}
use Rattle.chunk_cells.specs.Inner.Numbers.{numbers_in}
use Rattle.exec_cellwise.proofs.ChunkLaws.{all_framed, chunks_made}
use Rattle.exec_cellwise.proofs.build.chunks.chunks.chunks_of.Goals as goal

pub chunks_at-requires-clause-framed : goal.chunks_at-requires-clause-framed
chunks_at-requires-clause-framed c =
    let schema = c.args.schema.now in
    subst (λ (ks : List (ArrayVec ℕ)). AreFramed schema.dimensions (numbers_in ks)) (sym c.as_slice.ensures) (all_framed schema c.in_ok-listed.listed c.requires.frames.valid c.in_ok-listed.ensures)

pub returns : goal.returns
returns c =
    chunks_made c.args.schema.now c.args.value.now c.args.margins.now.items c.in_ok-listed.listed c.as_slice.result.now c.chunks_at.result c.requires.rows c.in_ok-listed.ensures c.as_slice.ensures c.chunks_at.ensures.same c.chunks_at.ensures.parts
