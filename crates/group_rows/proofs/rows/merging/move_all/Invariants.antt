use Rattle.std.proofs.Common.{◌≡◌, ◌++◌, length}
use Rattle.group_rows.proofs.rows.merging.move_all.Given as goal

abbrev pub invariant-loop-group : goal.invariant-loop-group
invariant-loop-group l = l.merged ++ l.groups.items ≡ l.initial.merged ++ l.initial.groups.items

abbrev pub decreases-loop-group : goal.decreases-loop-group
decreases-loop-group l = length l.groups.items
