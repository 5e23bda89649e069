use Rattle.chunk_exec.proofs.Steps.{CellsLeft}
use Rattle.chunk_exec.proofs.rows.rows.faults.first.with_cells.Given as goal

abbrev pub invariant-loop-i : goal.invariant-loop-i
invariant-loop-i l = CellsLeft l.grid l.positions l.cells l.i l.fn.first l.least
