use Rattle.std.proofs.Common.{◌≡◌, take}
use Rattle.logical_plan.specs.Typing.{left_places}
use Rattle.exec_join.proofs.cross.left_places.Given as goal

abbrev pub invariant-loop-pair : goal.invariant-loop-pair
invariant-loop-pair l = l.places ≡ left_places (take l.pair-index l.pairs)
