use Rattle.std.proofs.Common.{◌≡◌, ◌++◌, take}
use Rattle.cell_values.specs.Schemas.{attribute_names}
use Rattle.check_groups.proofs.names.list.push_attribute_names.Given as goal

abbrev pub invariant-loop-attribute : goal.invariant-loop-attribute
invariant-loop-attribute l = l.names ≡ l.fn.names ++ attribute_names (take l.attribute-index l.attributes)
