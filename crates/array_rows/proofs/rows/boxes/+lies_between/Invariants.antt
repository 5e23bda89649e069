use Rattle.std.proofs.Common.{length}
use Rattle.array_rows.proofs.rows.boxes.+lies_between.Given as goal

abbrev pub decreases-lies_between : goal.decreases-lies_between
decreases-lies_between l = length l.lo.now
