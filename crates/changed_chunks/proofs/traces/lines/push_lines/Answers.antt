use Rattle.std.proofs.Common.{◌∙◌, refl}
use Rattle.cell_values.specs.Schemas.{IsValid}
use Rattle.chunk_source.specs.Source.{Reads}
use Rattle.chunk_source.proofs.ReadLemmas.{keeps_on}
use Rattle.changed_chunks.proofs.Tracing.{all_read, all_traced, at_place, nothing_traced, traced_more}
use Rattle.changed_chunks.proofs.traces.lines.push_lines.Goals as goal

pub loop-place-init : goal.loop-place-init
loop-place-init g c = (nothing_traced (g.S.ChunkSource.state c.args.source.now) c.args.leaves.now c.args.boxes.now c.args.lines.now, refl)

pub push_line-requires-clause-reads : goal.push_line-requires-clause-reads
push_line-requires-clause-reads g c =
    let first = g.S.ChunkSource.state c.args.source.now in
    let before = g.S.ChunkSource.state c.loop-place.source in
    at_place (Reads before) c.args.leaves.now c.loop-place.place c.index-leaves-place.result c.loop-place-test.true c.index-leaves-place.is
    (all_read first before c.args.leaves.now c.loop-place.invariant.0.kept c.requires.reads)

pub push_line-requires-clause-valid : goal.push_line-requires-clause-valid
push_line-requires-clause-valid g c =
    at_place (λ leaf. IsValid leaf.schema) c.args.leaves.now c.loop-place.place c.index-leaves-place.result c.loop-place-test.true c.index-leaves-place.is c.requires.valid

pub loop-place-preserved : goal.loop-place-preserved
loop-place-preserved g c =
    let first = g.S.ChunkSource.state c.args.source.now in
    let before = g.S.ChunkSource.state c.loop-place.source in
    let now = g.S.ChunkSource.state c.push_line.new.source in
    let so_far = c.loop-place.invariant in
    let e = c.in_ok-push_line.ensures in (
      traced_more first before now c.args.leaves.now c.args.boxes.now c.loop-place.place c.index-leaves-place.result c.index-boxes-place.result c.args.lines.now c.loop-place.lines c.push_line.new.lines
          c.requires.each c.loop-place-test.true c.index-leaves-place.is c.index-boxes-place.is so_far.0 e.line e.asked e.kept e.cause,
      e.start ∙ so_far.1,
    )

pub returns-clause-lines : goal.returns-clause-lines
returns-clause-lines g c =
    all_traced (g.S.ChunkSource.state c.args.source.now) (g.S.ChunkSource.state c.loop-place.source) c.args.leaves.now c.args.boxes.now c.loop-place.place c.args.lines.now c.loop-place.lines
    c.requires.each c.loop-place-test.false c.loop-place.invariant.0

pub returns-in_err-push_line-clause-start : goal.returns-in_err-push_line-clause-start
returns-in_err-push_line-clause-start g c = c.in_err-push_line.ensures.start ∙ c.loop-place.invariant.1

pub returns-in_err-push_line-clause-kept : goal.returns-in_err-push_line-clause-kept
returns-in_err-push_line-clause-kept g c =
    keeps_on (g.S.ChunkSource.state c.args.source.now) (g.S.ChunkSource.state c.loop-place.source) (g.S.ChunkSource.state c.push_line.new.source) c.loop-place.invariant.0.kept c.in_err-push_line.ensures.kept
