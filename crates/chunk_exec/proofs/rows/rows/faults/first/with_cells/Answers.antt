use Rattle.chunk_exec.proofs.Steps.{next_cell}
use Rattle.chunk_exec.proofs.rows.rows.faults.first.with_cells.Goals as goal

pub loop-i-preserved : goal.loop-i-preserved
loop-i-preserved c = next_cell c.args.grid.now c.args.positions.now c.args.cells.now c.loop-i.i c.args.first c.loop-i.least c.with_cell-least.result c.requires.each c.loop-i-test.true c.loop-i.invariant c.with_cell-least.ensures
