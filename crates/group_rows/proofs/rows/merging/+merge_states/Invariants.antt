use Rattle.std.proofs.Common.{length}
use Rattle.group_rows.proofs.rows.merging.+merge_states.Given as goal

abbrev pub decreases-merge_states : goal.decreases-merge_states
decreases-merge_states l = length l.left
