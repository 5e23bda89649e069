use Rattle.std.proofs.Common.{◌≡◌, map, take}
use Rattle.logical_plan.specs.Redimension.{target_value}
use Rattle.redimension_exec.specs.Inner.Places.{origin}
use Rattle.redimension_exec.proofs.places.numbers.values_from.Given as goal

abbrev pub invariant-loop-place : goal.invariant-loop-place
invariant-loop-place l = l.made ≡ map (target_value l.at.items l.values) (map origin (take l.place-index l.places))
