use Rattle.std.proofs.Common.{◌≡◌, drop}
use Rattle.logical_plan.specs.Faults.{first_fault}
use Rattle.changed_chunks.proofs.chunks.input.first_fault.Given as goal

abbrev pub invariant-loop-row : goal.invariant-loop-row
invariant-loop-row l = first_fault (drop l.row-index l.rows) ≡ first_fault l.rows
