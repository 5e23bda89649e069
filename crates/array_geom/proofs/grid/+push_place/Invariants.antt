use Rattle.std.proofs.Common.{length}
use Rattle.array_geom.proofs.grid.+push_place.Given as goal

abbrev pub decreases-push_place : goal.decreases-push_place
decreases-push_place l = length l.lengths.now
