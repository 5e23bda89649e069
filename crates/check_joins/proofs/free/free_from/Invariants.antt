use Rattle.std.proofs.Common.{◌≡◌, ◌+◌, ◌-◌, length}
use Rattle.logical_plan.specs.PlanSchema.{free_from}
use Rattle.check_joins.proofs.free.free_from.Given as goal

abbrev pub invariant-loop-number : goal.invariant-loop-number
invariant-loop-number l = free_from (length l.given + 2 - l.number) l.number l.given l.name ≡ free_from (length l.given) 2 l.given l.name
