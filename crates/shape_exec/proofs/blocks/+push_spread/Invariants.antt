use Rattle.std.proofs.Common.{◌≡◌, ◌+◌, ◌++◌, [], ◌∷◌, length}
use Rattle.std.specs.List.{flat_map}
use Rattle.logical_plan.specs.Places.{count_from}
use Rattle.shape_exec.specs.Inner.Spread.{spread_under}
use Rattle.shape_exec.proofs.blocks.+push_spread.Given as goal

abbrev pub decreases-push_spread : goal.decreases-push_spread
decreases-push_spread l = length l.parts.now + length l.parts.now

abbrev pub decreases-push_along : goal.decreases-push_along
decreases-push_along l = length l.rest.now + length l.rest.now + 1

abbrev pub invariant-push_along-loop-offset : goal.invariant-push_along-loop-offset
invariant-push_along-loop-offset l = l.rows ≡ l.initial.rows ++ flat_map (λ x. spread_under l.cell (l.at.items ++ x ∷ []) l.rest) (count_from l.part.first l.offset)
