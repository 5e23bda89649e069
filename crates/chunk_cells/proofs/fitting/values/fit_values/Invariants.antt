use Rattle.std.proofs.Common.{◌≡◌, take}
use Rattle.logical_plan.specs.CellOps.{fit_values}
use Rattle.chunk_cells.proofs.fitting.values.fit_values.Given as goal

abbrev pub invariant-loop-index : goal.invariant-loop-index
invariant-loop-index l = l.values ≡ fit_values (take l.index l.attributes) l.initial.values
