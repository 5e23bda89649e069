use Rattle.std.proofs.Common.{◌≡◌, drop}
use Rattle.logical_plan.specs.Groups.{first_some}
use Rattle.check_sources.specs.Targets.{gathered_fault}
use Rattle.check_sources.proofs.redimension.target.first_gathered.Given as goal

abbrev pub invariant-loop-attribute : goal.invariant-loop-attribute
invariant-loop-attribute l =
    first_some (gathered_fault l.source l.aggregates) l.attributes ≡ first_some (gathered_fault l.source l.aggregates) (drop l.attribute-index l.attributes)
