use Rattle.std.proofs.Common.{◌≡◌, take}
use Rattle.logical_plan.specs.BoxOps.{numbers_at}
use Rattle.order_exec.proofs.rank_groups.key_at.Given as goal

abbrev pub invariant-loop-place : goal.invariant-loop-place
invariant-loop-place l = l.key.items ≡ numbers_at (take l.place-index l.dims) l.at.items
