use Rattle.std.proofs.Common.{◌≡◌, take}
use Rattle.logical_plan.specs.Joins.{right_places}
use Rattle.exec_join.proofs.cross.right_places.Given as goal

abbrev pub invariant-loop-pair : goal.invariant-loop-pair
invariant-loop-pair l = l.places ≡ right_places (take l.pair-index l.pairs)
