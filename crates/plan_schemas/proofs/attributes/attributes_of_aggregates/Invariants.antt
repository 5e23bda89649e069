use Rattle.std.proofs.Common.{◌≡◌, take}
use Rattle.logical_plan.specs.PlanSchema.{aggregate_attributes}
use Rattle.plan_schemas.proofs.attributes.attributes_of_aggregates.Given as goal

abbrev pub invariant-loop-aggregate : goal.invariant-loop-aggregate
invariant-loop-aggregate l = l.made ≡ aggregate_attributes l.attributes (take l.aggregate-index l.aggregate-items)
