use Rattle.std.proofs.Common.{◌≡◌, ◌-◌, ◌≤◌, ◌++◌, length, drop}
use Rattle.array_rows.specs.Boxes.{within}
use Rattle.window_overlap.specs.Inner.Runs.{rows_of, AreRuns}
use Rattle.window_overlap.proofs.chunks.runs.runs_within.Given as goal

abbrev pub invariant-loop-start : goal.invariant-loop-start
invariant-loop-start l = record {
  upto : l.start ≤ length l.rows;
  runs : AreRuns (length l.rows) l.runs;
  rows : rows_of l.rows l.runs ++ within l.area (drop l.start l.rows) ≡ within l.area l.rows;
}

abbrev pub decreases-loop-start : goal.decreases-loop-start
decreases-loop-start l = length l.rows - l.start
