use Rattle.std.proofs.Common.{◌+◌, ◌-◌, ◌≤◌, length}
use Rattle.chunk_cells.specs.Inner.Over.{Goes}
use Rattle.chunk_cells.proofs.overlay.over.put_over.Given as goal

abbrev pub invariant-putting : goal.invariant-putting
invariant-putting l = record {
  goes : Goes l.new l.old l.initial.made 0 0 l.made l.at_new l.at_old;
  new_inside : l.at_new ≤ length l.new.positions;
  old_inside : l.at_old ≤ length l.old.positions;
}

abbrev pub decreases-putting : goal.decreases-putting
decreases-putting l = (length l.new.positions + length l.old.positions) - (l.at_new + l.at_old)
