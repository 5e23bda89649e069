use Rattle.std.proofs.Common.{List, ℕ, sym, subst, ap, ◌∙◌}
use Rattle.array_geom.specs.Link.{AreChunksOf}
use Rattle.arrayvec.specs.ArrayVec.{ArrayVec}
use Rattle.array_geom.proofs.NearLemmas.{valid_placed}
use Rattle.chunk_cells.specs.Frames.{AreFramed}
use Rattle.chunk_cells.specs.Inner.Numbers.{numbers_in}
use Rattle.chunk_cells.proofs.ChunkLaws.{cores_framed, chunks_made}
use Rattle.chunk_cells.proofs.assembly.arrays.chunks_of.Goals as goal

pub put_rows-requires-clause-framed : goal.put_rows-requires-clause-framed
put_rows-requires-clause-framed c =
    let schema = c.args.schema.now in
    subst (λ (ks : List (ArrayVec ℕ)). AreFramed schema.dimensions (numbers_in ks)) (sym c.as_slice-2.ensures)
    (cores_framed schema.dimensions c.args.rows.now c.in_ok-listed.listed (valid_placed schema c.requires.rows.valid).near c.requires.rows.are_rows.in_bounds c.in_ok-listed.ensures)

pub returns : goal.returns
returns c =
    let dims = c.args.schema.now.dimensions in
    subst (AreChunksOf dims c.args.margins.now.items c.args.rows.now) (sym c.from_vec.ensures)
    (chunks_made dims c.args.margins.now.items c.args.rows.now c.in_ok-listed.listed c.put_rows.new.chunks.items c.in_ok-listed.ensures
    (c.in_ok-put_rows.ensures.same ∙ ap numbers_in c.as_slice-2.ensures) c.in_ok-put_rows.ensures.parts)
