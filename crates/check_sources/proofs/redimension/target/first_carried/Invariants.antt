use Rattle.std.proofs.Common.{◌≡◌, drop}
use Rattle.logical_plan.specs.Groups.{first_some}
use Rattle.check_sources.specs.Targets.{carried_fault}
use Rattle.check_sources.proofs.redimension.target.first_carried.Given as goal

abbrev pub invariant-loop-attribute : goal.invariant-loop-attribute
invariant-loop-attribute l = first_some (carried_fault l.source) l.attributes ≡ first_some (carried_fault l.source) (drop l.attribute-index l.attributes)
