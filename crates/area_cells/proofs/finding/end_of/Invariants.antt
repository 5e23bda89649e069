use Rattle.std.proofs.Common.{◌-◌, ◌+◌, ◌<◌, ◌≤◌, ℕ, length, slice_index_or}
use Rattle.area_cells.proofs.finding.end_of.Given as goal

abbrev pub invariant-loop-low : goal.invariant-loop-low
invariant-loop-low l = record {
  some : l.from < l.low;
  order : l.low ≤ l.high;
  within : l.high ≤ length l.places;
  last : slice_index_or l.places (l.low - 1) 0 ≤ l.last;
}

abbrev pub decreases-loop-low : goal.decreases-loop-low
decreases-loop-low l = l.high - l.low
