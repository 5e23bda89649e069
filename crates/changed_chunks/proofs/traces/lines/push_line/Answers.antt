use Rattle.std.proofs.Common.{◌∙◌, List, ℕ, ap}
use Rattle.arrayvec.specs.ArrayVec.{ArrayVec}
use Rattle.array_geom.specs.Geometry.{core_meets}
use Rattle.changed_chunks.specs.Listed.{chunks_among}
use Rattle.changed_chunks.specs.Traced.{asking_where}
use Rattle.changed_chunks.proofs.Counting.{told_asking}
use Rattle.changed_chunks.proofs.Tracing.{adds_one}
use Rattle.changed_chunks.proofs.traces.lines.push_line.Goals as goal

pub returns-clause-line : goal.returns-clause-line
returns-clause-line g c =
    let leaf = c.args.leaf.now in
    let area = c.args.area.now in
    let dims = leaf.schema.dimensions in
    let asks = c.in_ok-asking.ensures ∙ ap (λ (z : List (ArrayVec ℕ)). asking_where (core_meets dims area) (chunks_among dims z)) c.as_slice.ensures in
    adds_one (g.S.ChunkSource.state c.args.source.now) leaf area c.args.lines.now c.write_line.new.out c.in_ok-asking.asking c.in_ok-write_line.ensures
    (asks ∙ ap (λ (z : List (ArrayVec ℕ)). asking_where (core_meets dims area) (chunks_among dims z)) c.in_ok-listed.ensures.listed)
    (λ db tells. asks ∙ told_asking db leaf c.in_ok-listed.listed area c.requires.valid c.in_ok-listed.ensures.rising (c.in_ok-listed.ensures.told db tells))

pub returns-in_err-write_line-clause-kept : goal.returns-in_err-write_line-clause-kept
returns-in_err-write_line-clause-kept g c = c.in_ok-listed.ensures.kept

pub returns-in_err-asking-clause-kept : goal.returns-in_err-asking-clause-kept
returns-in_err-asking-clause-kept g c = c.in_ok-listed.ensures.kept

pub returns-clause-start : goal.returns-clause-start
returns-clause-start g c = c.in_ok-listed.ensures.start

pub returns-in_err-write_line-clause-start : goal.returns-in_err-write_line-clause-start
returns-in_err-write_line-clause-start g c = c.in_ok-listed.ensures.start

pub returns-in_err-asking-clause-start : goal.returns-in_err-asking-clause-start
returns-in_err-asking-clause-start g c = c.in_ok-listed.ensures.start

pub returns-in_err-write_line-clause-asked : goal.returns-in_err-write_line-clause-asked
returns-in_err-write_line-clause-asked g c = c.in_ok-listed.ensures.asked

pub returns-clause-kept : goal.returns-clause-kept
returns-clause-kept g c = c.in_ok-listed.ensures.kept

pub returns-clause-asked : goal.returns-clause-asked
returns-clause-asked g c = c.in_ok-listed.ensures.asked
