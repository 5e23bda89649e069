use Rattle.std.proofs.Common.{◌≡◌, true, take}
use Rattle.group_rows.specs.Sets.{are_at}
use Rattle.group_rows.proofs.rows.forming.run_length.Given as goal

abbrev pub invariant-loop-key : goal.invariant-loop-key
invariant-loop-key l = record {
  count : l.count ≡ l.key-index;
  same : are_at l.at.items (take l.key-index l.keys) ≡ true;
}
