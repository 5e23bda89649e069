use Rattle.array_rows.specs.Boxes.{bounds_of}
use Rattle.logical_plan.specs.Shapes.{blocks_back}
use Rattle.chunk_cells.proofs.MergeLaws.{if_ok}
use Rattle.shape_rows.proofs.PullLaws.{pulled_in}
use Rattle.shape_exec.proofs.blocks.BlocksCellMap.rows_from.Goals as goal

pub returns : goal.returns
returns c =
    let map = c.args.self.now in
    if_ok c.block_rows.result c.block_rows.ensures
    (λ made is. pulled_in (bounds_of map.schema.now.dimensions) c.args.area.now (blocks_back map.source.now.dimensions map.sizes.now) c.args.rows made is)
