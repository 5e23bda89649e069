use Rattle.std.proofs.Common.{◌≡◌, take}
use Rattle.std.specs.List.{filter_map}
use Rattle.logical_plan.specs.Redimension.{named}
use Rattle.redimension_exec.proofs.arrays.ordering.aggregates_named.Given as goal

abbrev pub invariant-loop-attribute : goal.invariant-loop-attribute
invariant-loop-attribute l = l.found ≡ filter_map (λ a. named l.aggregates a.name) (take l.attribute-index l.attributes)
