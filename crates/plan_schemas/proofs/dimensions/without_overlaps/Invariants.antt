use Rattle.std.proofs.Common.{◌≡◌, map, take}
use Rattle.logical_plan.specs.PlanSchema.{without_overlap}
use Rattle.plan_schemas.proofs.dimensions.without_overlaps.Given as goal

abbrev pub invariant-loop-dimension : goal.invariant-loop-dimension
invariant-loop-dimension l = l.copies ≡ map without_overlap (take l.dimension-index l.dimension-items)
