use Rattle.std.proofs.Common.{length}
use Rattle.exec_box.proofs.rows.slices.+push_free.Given as goal

abbrev pub decreases-push_free : goal.decreases-push_free
decreases-push_free l = length l.at.now
