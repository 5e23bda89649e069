use Rattle.std.proofs.Common.{◌≡◌, map, take}
use Rattle.logical_plan.specs.Redimension.{value_origin}
use Rattle.redimension_exec.specs.Inner.Places.{origin}
use Rattle.redimension_exec.proofs.places.places.places_of_attributes.Given as goal

abbrev pub invariant-loop-attribute : goal.invariant-loop-attribute
invariant-loop-attribute l = map origin l.places ≡ map (value_origin l.source) (take l.attribute-index l.attributes)
