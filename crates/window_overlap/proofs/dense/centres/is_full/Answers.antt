use Rattle.std.proofs.Common.{ap}
use Rattle.array_rows.specs.Inner.CellsIn.{cells_in}
use Rattle.window_overlap.proofs.CentreLaws.{even_full}
use Rattle.window_overlap.proofs.dense.centres.is_full.Goals as goal

pub returns-in-Even : goal.returns-in-Even
returns-in-Even c = λ t. even_full c.args.found.now c.in-Even.field-0 (ap cells_in c.in-Even.is)
