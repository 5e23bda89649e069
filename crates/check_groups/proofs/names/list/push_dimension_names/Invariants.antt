use Rattle.std.proofs.Common.{◌≡◌, ◌++◌, take}
use Rattle.cell_values.specs.Schemas.{dimension_names}
use Rattle.check_groups.proofs.names.list.push_dimension_names.Given as goal

abbrev pub invariant-loop-dimension : goal.invariant-loop-dimension
invariant-loop-dimension l = l.names ≡ l.fn.names ++ dimension_names (take l.dimension-index l.dimensions)
