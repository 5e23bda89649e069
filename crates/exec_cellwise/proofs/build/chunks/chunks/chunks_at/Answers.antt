use Rattle.std.proofs.Common.{◌<◌, ◌∙◌, ℕ, List, ap, length, arith}
use Rattle.std.proofs.lemmas.List.{take_all}
use Rattle.arrayvec.specs.ArrayVec.{ArrayVec}
use Rattle.array_geom.specs.Link.{IsPart}
use Rattle.chunk_cells.specs.Inner.Numbers.{numbers_in}
use Rattle.logical_plan.specs.Meaning.{built_rows}
use Rattle.exec_cellwise.proofs.ChunkLaws.{frame_of_listed, number_made, part_made}
use Rattle.exec_cellwise.proofs.build.chunks.chunks.chunks_at.Goals as goal

pub chunk_at-requires-clause-framed : goal.chunk_at-requires-clause-framed
chunk_at-requires-clause-framed c =
    let below : c.loop-number.number-index < length c.args.listed.now = omega arith in
    frame_of_listed c.args.schema.now c.args.margins.now.items c.args.listed.now c.loop-number.number-index c.number-item.result c.requires.frames c.requires.framed below c.number-item.is

pub loop-number-preserved : goal.loop-number-preserved
loop-number-preserved c =
    let schema = c.args.schema.now in
    let pushed = c.in_ok-push.ensures.ok in
    record {
      same = number_made c.args.listed.now c.loop-number.number-index c.number-item.result c.in_ok-chunk_at.field-0 c.loop-number.chunks c.push.new.self
          c.loop-number-test.true c.number-item.is c.in_ok-chunk_at.ensures.number c.loop-number.invariant.same pushed;
      parts = part_made (IsPart schema.dimensions c.args.margins.now.items (built_rows schema c.args.value.now)) c.loop-number.chunks c.push.new.self
          c.in_ok-chunk_at.field-0 c.loop-number.invariant.parts c.in_ok-chunk_at.ensures.part pushed;
    }

pub returns-clause-same : goal.returns-clause-same
returns-clause-same c =
    c.loop-number.invariant.same
    ∙ ap (λ (listed : List (ArrayVec ℕ)). numbers_in listed) (take_all c.loop-number.number-index c.args.listed.now c.loop-number-test.false)
