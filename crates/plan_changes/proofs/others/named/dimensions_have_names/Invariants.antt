use Rattle.std.proofs.Common.{take}
use Rattle.std.specs.List.{AllByRecursion}
use Rattle.expr_nulls.specs.Naming.{IsName}
use Rattle.expr_nulls.specs.Schemas.{dimension_names}
use Rattle.plan_changes.proofs.others.named.dimensions_have_names.Given as goal

abbrev pub invariant-loop-dimension : goal.invariant-loop-dimension
invariant-loop-dimension l = AllByRecursion IsName (dimension_names (take l.dimension-index l.dimensions))
