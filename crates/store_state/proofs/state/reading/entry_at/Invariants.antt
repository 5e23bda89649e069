use Rattle.std.proofs.Common.{◌-◌, ◌≤◌, length, take, drop}
use Rattle.store_state.proofs.Searches.{AreOthers}
use Rattle.store_state.proofs.state.reading.entry_at.Given as goal

abbrev pub invariant-loop-start : goal.invariant-loop-start
invariant-loop-start l = record {
  order : l.start ≤ l.end;
  within : l.end ≤ length l.entries;
  before : AreOthers l.at.items (take l.start l.entries);
  from : AreOthers l.at.items (drop l.end l.entries);
}

abbrev pub decreases-loop-start : goal.decreases-loop-start
decreases-loop-start l = l.end - l.start
