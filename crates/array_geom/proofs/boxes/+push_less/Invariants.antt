use Rattle.std.proofs.Common.{length}
use Rattle.array_geom.proofs.boxes.+push_less.Given as goal

abbrev pub decreases-push_less : goal.decreases-push_less
decreases-push_less l = length l.a.now
