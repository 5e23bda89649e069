use Rattle.std.proofs.Common.{◌≡◌, ◌≤◌, take}
use Rattle.std.specs.List.{count_by}
use Rattle.changed_chunks.specs.Listed.{is_sized}
use Rattle.changed_chunks.proofs.traces.asking.count_chunks.Given as goal

abbrev pub invariant-loop-at : goal.invariant-loop-at
invariant-loop-at l = record {
  count : l.count ≡ count_by (is_sized l.schema.dimensions) (take l.at-index l.chunks);
  few : l.count ≤ l.at-index;
}
