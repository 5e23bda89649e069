use Rattle.std.proofs.Common.{◌≡◌, map, take}
use Rattle.cell_values.specs.Schemas.{dimension_names}
use Rattle.logical_plan.specs.BoxOps.{items_at}
use Rattle.logical_plan.specs.PlanSchema.{without_overlap}
use Rattle.check_groups.proofs.groups.aggregate.names_at.Given as goal

abbrev pub invariant-loop-place : goal.invariant-loop-place
invariant-loop-place l = l.names ≡ dimension_names (map without_overlap (items_at (take l.place-index l.places) l.dimensions))
