use Rattle.std.proofs.Common.{arith}
use Rattle.chunk_cells.proofs.RestLaws.{up_to_more}
use Rattle.chunk_cells.proofs.overlay.over.push_rest.Goals as goal

pub loop-index-preserved : goal.loop-index-preserved
loop-index-preserved c = up_to_more c.args.from.now c.args.made.now c.loop-index.made c.push_cell.new.made c.args.start c.loop-index.index c.requires.each (omega arith) c.in_ok-push_cell.ensures c.loop-index.invariant
