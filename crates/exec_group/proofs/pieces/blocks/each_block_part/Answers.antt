use Rattle.exec_group.proofs.PiecesPartLaws.{each_has_cells}
use Rattle.exec_group.proofs.pieces.blocks.each_block_part.Goals as goal

pub over_pieces-requires-after_bounds : goal.over_pieces-requires-after_bounds
over_pieces-requires-after_bounds g c κs within = each_has_cells c.args.schema.now c.args.margins.now.items c.args.chunks c.requires.cells
