use Rattle.shape_exec.proofs.SpreadLaws.{spread_pulled}
use Rattle.shape_exec.proofs.blocks.block_rows.Goals as goal

pub returns : goal.returns
returns c =
    let of = c.args.of.now in
    spread_pulled of.source.now of.schema.now of.sizes.now c.as_slice.result.now c.args.rows c.in_ok-spread.spread c.in_order.result c.requires.source c.requires.valid c.requires.blocks c.requires.schema c.as_slice.ensures c.requires.inside c.in_ok-spread.ensures
    c.in_order.ensures
