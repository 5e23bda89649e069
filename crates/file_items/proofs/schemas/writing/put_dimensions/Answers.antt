use Rattle.std.proofs.Common.{length}
use Rattle.std.specs.Int.{w8, to_le_bytes}
use Rattle.file_items.proofs.Puts.{put_more}
use Rattle.file_items.specs.Spelling.{spell_dimension}
use Rattle.file_items.proofs.schemas.writing.put_dimensions.Goals as goal

pub loop-dimension-preserved : goal.loop-dimension-preserved
loop-dimension-preserved c =
    put_more spell_dimension c.args.out.now (to_le_bytes w8 (length c.args.dimensions.now)) c.loop-dimension.out c.put_dimension.new.out c.args.dimensions.now c.loop-dimension.dimension-index c.dimension-item.result
    c.loop-dimension-test.true c.dimension-item.is c.loop-dimension.invariant c.in_ok-put_dimension.ensures
