use Rattle.logical_plan.specs.CellOps.{filter_cell}
use Rattle.array_parts.proofs.PartLemmas.{changes_are_local}
use Rattle.exec_cellwise.proofs.arrays.arrays.filter.Goals as goal

pub over_array-requires-clause-local : goal.over_array-requires-clause-local
over_array-requires-clause-local g c κs lives = changes_are_local (filter_cell c.args.test.now)
