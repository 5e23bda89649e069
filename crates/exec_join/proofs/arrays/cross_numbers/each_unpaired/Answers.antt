use Rattle.std.proofs.Common.{sym, ap, ◌∙◌}
use Rattle.array_geom.specs.declared.chunk.Chunk.{Chunk}
use Rattle.logical_plan.specs.BoxOps.{items_but}
use Rattle.exec_join.proofs.CrossPieceLaws.{more_unpaired}
use Rattle.exec_join.proofs.arrays.cross_numbers.each_unpaired.Goals as goal

pub loop-k-preserved : goal.loop-k-preserved
loop-k-preserved c =
    more_unpaired c.args.places.now c.as_slice-chunks.result.now c.loop-k.k c.index-chunks-k.result c.unpaired.result c.loop-k.others c.push.new.self c.loop-k-test.true c.index-chunks-k.is
    (c.unpaired.ensures ∙ ap (λ (z : Chunk). items_but c.args.places.now 0 z.at.items) (sym c.index-chunks-k.is)) c.in_ok-push.ensures.ok c.loop-k.invariant
