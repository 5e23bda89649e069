use Rattle.std.proofs.Common.{◌+◌, ◌-◌, ◌≤◌, [], length}
use Rattle.area_cells.specs.Inner.Merged.{Goes}
use Rattle.area_cells.proofs.merging.interleave.Given as goal

abbrev pub invariant-merging : goal.invariant-merging
invariant-merging l = record {
  goes : Goes l.grid l.one l.other [] 0 0 l.made l.at_left l.at_right;
  left_within : l.at_left ≤ length l.one;
  right_within : l.at_right ≤ length l.other;
}

abbrev pub decreases-merging : goal.decreases-merging
decreases-merging l = (length l.one + length l.other) - (l.at_left + l.at_right)
