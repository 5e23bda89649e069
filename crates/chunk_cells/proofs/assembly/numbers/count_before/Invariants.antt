use Rattle.std.proofs.Common.{◌-◌, ◌≤◌, length, take, drop}
use Rattle.chunk_cells.specs.Inner.Numbers.{AreBefore, AreFrom}
use Rattle.chunk_cells.proofs.assembly.numbers.count_before.Given as goal

abbrev pub invariant-loop-start : goal.invariant-loop-start
invariant-loop-start l = record {
  order : l.start ≤ l.end;
  within : l.end ≤ length l.listed;
  before : AreBefore l.number.items (take l.start l.listed);
  from : AreFrom l.number.items (drop l.end l.listed);
}

abbrev pub decreases-loop-start : goal.decreases-loop-start
decreases-loop-start l = l.end - l.start
