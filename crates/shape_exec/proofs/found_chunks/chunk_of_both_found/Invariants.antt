use Rattle.std.proofs.Common.{◌≡◌, ◌+◌, ◌-◌, ◌≤◌, [], length}
use Rattle.shape_exec.specs.Inner.Merged.{MergesOn}
use Rattle.shape_exec.proofs.found_chunks.chunk_of_both_found.Given as goal

abbrev pub invariant-merging : goal.invariant-merging
invariant-merging l = record {
  number : l.chunk.at ≡ l.number;
  merged : MergesOn l.grid l.one l.other [] 0 0 l.chunk l.at_left l.at_right;
  left_within : l.at_left ≤ length l.one;
  right_within : l.at_right ≤ length l.other;
}

abbrev pub decreases-merging : goal.decreases-merging
decreases-merging l = (length l.one + length l.other) - (l.at_left + l.at_right)
