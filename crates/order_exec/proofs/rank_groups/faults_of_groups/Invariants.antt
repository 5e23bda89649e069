use Rattle.std.proofs.Common.{take}
use Rattle.order_exec.specs.Inner.Ranked.{HoldsFaults}
use Rattle.order_exec.proofs.rank_groups.faults_of_groups.Given as goal

abbrev pub invariant-loop-row : goal.invariant-loop-row
invariant-loop-row l = HoldsFaults l.attribute l.dims (take l.row-index l.rows) l.groups
