use Rattle.logical_plan.specs.CellOps.{project_cell}
use Rattle.array_parts.proofs.PartLemmas.{changes_are_local}
use Rattle.exec_cellwise.proofs.arrays.arrays.project.Goals as goal

pub over_array-requires-clause-local : goal.over_array-requires-clause-local
over_array-requires-clause-local g c κs lives = changes_are_local (project_cell c.args.places.now)
