use Rattle.std.proofs.Common.{take}
use Rattle.std.specs.List.{AllZip}
use Rattle.group_rows.specs.Told.{IsTold}
use Rattle.order_exec.proofs.state_values.values_of.Given as goal

abbrev pub invariant-loop-state : goal.invariant-loop-state
invariant-loop-state l = AllZip IsTold (take l.state-index l.state-items) l.values
