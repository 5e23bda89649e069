use Rattle.std.proofs.Common.{◌≡◌, take}
use Rattle.logical_plan.specs.BoxOps.{numbers_at}
use Rattle.exec_join.proofs.partners.numbers_at.Given as goal

abbrev pub invariant-loop-place : goal.invariant-loop-place
invariant-loop-place l = l.numbers.items ≡ numbers_at (take l.place-index l.places) l.at.items
