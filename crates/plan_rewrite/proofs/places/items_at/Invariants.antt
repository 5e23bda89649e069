use Rattle.std.proofs.Common.{◌≡◌, take}
use Rattle.logical_plan.specs.BoxOps.{items_at}
use Rattle.plan_rewrite.proofs.places.items_at.Given as goal

abbrev pub invariant-loop-place : goal.invariant-loop-place
invariant-loop-place l = l.found ≡ items_at (take l.place-index l.place-items) l.items
