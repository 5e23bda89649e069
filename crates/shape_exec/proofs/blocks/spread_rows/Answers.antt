use Rattle.shape_exec.proofs.SpreadLaws.{one_spread}
use Rattle.shape_exec.proofs.blocks.spread_rows.Goals as goal

pub loop-row-preserved : goal.loop-row-preserved
loop-row-preserved c =
    one_spread c.args.dims.now c.args.sizes.now _ c.loop-row.row-index c.row-item.result c.loop-row.made c.push_block.new.out c.loop-row-test.true c.row-item.is c.loop-row.invariant c.in_ok-push_block.ensures
