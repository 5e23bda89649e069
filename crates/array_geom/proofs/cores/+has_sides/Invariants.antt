use Rattle.std.proofs.Common.{length}
use Rattle.array_geom.proofs.cores.+has_sides.Given as goal

abbrev pub decreases-has_sides : goal.decreases-has_sides
decreases-has_sides l = length l.dims.now
