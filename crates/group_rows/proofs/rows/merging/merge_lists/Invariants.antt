use Rattle.std.proofs.Common.{◌+◌, ◌≤◌, [], length}
use Rattle.group_rows.specs.Counts.{cells_in}
use Rattle.group_rows.specs.Inner.Merged.{IsMove}
use Rattle.group_rows.proofs.rows.merging.merge_lists.Given as goal

abbrev pub invariant-merging : goal.invariant-merging
invariant-merging l = record {
  moved : IsMove [] l.initial.left.items l.initial.right.items l.merged l.left.items l.right.items;
  cells : cells_in l.merged + (cells_in l.left.items + cells_in l.right.items) ≤ cells_in l.initial.left.items + cells_in l.initial.right.items;
}

abbrev pub decreases-merging : goal.decreases-merging
decreases-merging l = length l.left.items + length l.right.items
