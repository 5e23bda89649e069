use Rattle.std.proofs.Common.{◌≡◌, ◌++◌, map, take}
use Rattle.logical_plan.specs.PlanSchema.{derived}
use Rattle.plan_schemas.proofs.schema.with_applied.Given as goal

abbrev pub invariant-loop-value : goal.invariant-loop-value
invariant-loop-value l = l.attributes ≡ l.initial.attributes ++ map (λ a. derived a.name a.kind) (take l.value-index l.value-items)
