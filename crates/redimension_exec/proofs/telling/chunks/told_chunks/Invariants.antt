use Rattle.std.proofs.Common.{List, length}
use Rattle.std.specs.Map.{values_of}
use Rattle.cell_values.specs.declared.datum.Row.{Row}
use Rattle.redimension_exec.proofs.TellLaws.{IsTelling}
use Rattle.redimension_exec.proofs.telling.chunks.told_chunks.Given as goal

abbrev pub invariant-telling : goal.invariant-telling
invariant-telling l = (made : List Row) × IsTelling l.target l.margins.items made (values_of l.fn.chunks.entries) (values_of l.chunks.entries) l.told

abbrev pub decreases-telling : goal.decreases-telling
decreases-telling l = length l.chunks.entries
