use Rattle.array_parts.proofs.HeldLemmas.{held_at}
use Rattle.array_parts.proofs.parts.held.holds_cell.Goals as goal

pub returns : goal.returns
returns c =
    held_at c.args.schema.now.dimensions c.args.margins.now.items c.args.chunk.now c.core_box-core.result c.grid_of-grid.result.low.items c.grid_of-grid.result.lengths.items c.as_slice.result.now c.holds_one.result
    c.core_box-core.ensures c.grid_of-grid.ensures.low c.grid_of-grid.ensures.lengths c.as_slice.ensures c.requires.placed.each c.holds_one.ensures
