use Rattle.std.proofs.Common.{length}
use Rattle.array_geom.proofs.boxes.+is_between.Given as goal

abbrev pub decreases-is_between : goal.decreases-is_between
decreases-is_between l = length l.lo.now
