use Rattle.std.proofs.Common.{◌≡◌, take}
use Rattle.logical_plan.specs.BoxOps.{items_but, fixed_places}
use Rattle.plan_schemas.proofs.dimensions.free_dimensions.Given as goal

abbrev pub invariant-loop-place : goal.invariant-loop-place
invariant-loop-place l = l.free ≡ items_but (fixed_places l.fixed) 0 (take l.place l.dimension-items)
