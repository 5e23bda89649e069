use Rattle.std.proofs.Common.{◌≡◌, ◌^◌, ◌-◌, min, take}
use Rattle.logical_plan.specs.Typing.{places_in}
use Rattle.check_sources.proofs.sources.build.places_in.Given as goal

abbrev pub invariant-loop-dimension : goal.invariant-loop-dimension
invariant-loop-dimension l = l.count ≡ min (places_in (take l.dimension-index l.dimensions)) (2 ^ 64 - 1)
