use Rattle.std.proofs.Common.{map, take}
use Rattle.std.specs.List.{AllZip}
use Rattle.cell_values.specs.declared.datum.Cell.TheVariants.{Full}
use Rattle.group_rows.specs.Inner.Places.{rows_at}
use Rattle.redimension_exec.specs.Inner.Dense.{IsTargetOf}
use Rattle.redimension_exec.specs.Inner.Places.{origin}
use Rattle.redimension_exec.proofs.dense.targets.targets_of.Given as goal

abbrev pub invariant-loop-k : goal.invariant-loop-k
invariant-loop-k l =
    AllZip (IsTargetOf l.area (map origin l.to.places.now) l.to.bounds.now l.to.grid.now) (take l.k (rows_at l.grid l.positions (map Full l.rows) 0)) l.targets
