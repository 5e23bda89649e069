use Rattle.std.proofs.Common.{take}
use Rattle.group_rows.specs.Inner.Places.{AreMarked, HaveKey}
use Rattle.group_rows.proofs.places.runs.run_length.Given as goal

abbrev pub invariant-loop-count : goal.invariant-loop-count
invariant-loop-count l = record {
  marked : AreMarked (take l.count l.marks);
  same : HaveKey l.grouping l.grid l.at.items (take l.count l.positions);
}
