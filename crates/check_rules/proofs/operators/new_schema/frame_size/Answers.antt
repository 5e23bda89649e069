use Rattle.check_rules.proofs.Frames.{frame_grown}
use Rattle.check_rules.proofs.operators.new_schema.frame_size.Goals as goal

pub loop-dimension-preserved : goal.loop-dimension-preserved
loop-dimension-preserved c =
    frame_grown c.args.dimensions.now c.loop-dimension.dimension-index c.dimension-item.result c.loop-dimension.size c.frame_length.result _
    c.loop-dimension-test.true c.dimension-item.is c.loop-dimension.invariant c.frame_length.ensures c.saturating_mul-size.ensures
