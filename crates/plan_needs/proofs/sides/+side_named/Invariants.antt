use Rattle.std.proofs.Common.{length}
use Rattle.plan_needs.proofs.sides.+side_named.Given as goal

abbrev pub decreases-side_named : goal.decreases-side_named
decreases-side_named l = length l.places.now
