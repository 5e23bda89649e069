use Rattle.std.proofs.Common.{length}
use Rattle.array_geom.proofs.margins.+push_overlaps.Given as goal

abbrev pub decreases-push_overlaps : goal.decreases-push_overlaps
decreases-push_overlaps l = length l.dims.now
