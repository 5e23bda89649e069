use Rattle.std.proofs.Common.{length}
use Rattle.redimension_exec.proofs.places.places.+attribute_named.Given as goal

abbrev pub decreases-attribute_named : goal.decreases-attribute_named
decreases-attribute_named l = length l.attributes.now
