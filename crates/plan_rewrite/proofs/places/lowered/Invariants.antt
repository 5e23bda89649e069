use Rattle.std.proofs.Common.{◌≡◌, map, take}
use Rattle.plan_rewrite.specs.Inner.Trimmed.{lower}
use Rattle.plan_rewrite.proofs.places.lowered.Given as goal

abbrev pub invariant-loop-place : goal.invariant-loop-place
invariant-loop-place l = l.lowered_ones ≡ map (lower l.left_out) (take l.place-index l.place-items)
