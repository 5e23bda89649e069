use Rattle.std.proofs.Common.{◌≡◌, map, take}
use Rattle.logical_plan.specs.Redimension.{origin_of}
use Rattle.redimension_exec.specs.Inner.Places.{origin}
use Rattle.redimension_exec.proofs.places.places.places_of_dimensions.Given as goal

abbrev pub invariant-loop-dimension : goal.invariant-loop-dimension
invariant-loop-dimension l = map origin l.places ≡ map (origin_of l.source) (take l.dimension-index l.dimensions)
