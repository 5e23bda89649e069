use Rattle.std.proofs.Common.{◌-◌, ◌≤◌, length, take}
use Rattle.window_overlap.specs.Inner.Skips.{AreBefore}
use Rattle.window_overlap.proofs.chunks.skips.count_before.Given as goal

abbrev pub invariant-loop-start : goal.invariant-loop-start
invariant-loop-start l = record {
  order : l.start ≤ l.end;
  within : l.end ≤ length l.rows;
  before : AreBefore l.at.items (take l.start l.rows);
}

abbrev pub decreases-loop-start : goal.decreases-loop-start
decreases-loop-start l = l.end - l.start
