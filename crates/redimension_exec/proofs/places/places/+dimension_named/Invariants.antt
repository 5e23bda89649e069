use Rattle.std.proofs.Common.{length}
use Rattle.redimension_exec.proofs.places.places.+dimension_named.Given as goal

abbrev pub decreases-dimension_named : goal.decreases-dimension_named
decreases-dimension_named l = length l.dimensions.now
