use Rattle.std.proofs.Common.{sym}
use Rattle.shape_exec.proofs.NumberedCells.{none_doubted}
use Rattle.shape_exec.proofs.numbered_cells.doubt_of.Goals as goal

pub returns-in-Even : goal.returns-in-Even
returns-in-Even c = sym (none_doubted c.args.found.now c.in-Even.rows c.in-Even.is)
