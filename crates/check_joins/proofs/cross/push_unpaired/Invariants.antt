use Rattle.std.proofs.Common.{◌≡◌, ◌++◌, take}
use Rattle.logical_plan.specs.BoxOps.{items_but}
use Rattle.check_joins.proofs.cross.push_unpaired.Given as goal

abbrev pub invariant-loop-place : goal.invariant-loop-place
invariant-loop-place l = l.both ≡ l.fn.both ++ items_but l.places 0 (take l.place l.dimensions)
