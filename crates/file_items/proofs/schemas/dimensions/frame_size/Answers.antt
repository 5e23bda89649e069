use Rattle.file_items.proofs.Frames.{frame_step}
use Rattle.file_items.proofs.schemas.dimensions.frame_size.Goals as goal

pub loop-dimension-preserved : goal.loop-dimension-preserved
loop-dimension-preserved c =
    frame_step c.args.dimensions.now c.loop-dimension.dimension-index c.dimension-item.result c.loop-dimension.size c.saturating_mul-size.result c.length_with.result
    c.loop-dimension-test.true c.dimension-item.is c.loop-dimension.invariant c.length_with.ensures c.saturating_mul-size.ensures
