use Rattle.std.proofs.Common.{take}
use Rattle.std.specs.List.{AllByRecursion}
use Rattle.expr_nulls.specs.Naming.{IsName}
use Rattle.expr_nulls.specs.Schemas.{attribute_names}
use Rattle.plan_changes.proofs.others.named.attributes_have_names.Given as goal

abbrev pub invariant-loop-attribute : goal.invariant-loop-attribute
invariant-loop-attribute l = AllByRecursion IsName (attribute_names (take l.attribute-index l.attributes))
