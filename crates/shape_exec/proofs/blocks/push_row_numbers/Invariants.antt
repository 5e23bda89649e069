use Rattle.std.proofs.Common.{take}
use Rattle.shape_exec.specs.Inner.Spread.{AddsRows}
use Rattle.shape_exec.proofs.blocks.push_row_numbers.Given as goal

abbrev pub invariant-loop-k : goal.invariant-loop-k
invariant-loop-k l = AddsRows l.schema.dimensions (take l.k l.rows) l.initial.found l.found
