use Rattle.std.proofs.Common.{length}
use Rattle.group_rows.proofs.ToldLaws.{IsOnTheWay}
use Rattle.group_rows.proofs.told.rows_told.Given as goal

abbrev pub invariant-loop-group : goal.invariant-loop-group
invariant-loop-group l = IsOnTheWay l.initial.groups.items l.rows l.groups.items

abbrev pub decreases-loop-group : goal.decreases-loop-group
decreases-loop-group l = length l.groups.items
