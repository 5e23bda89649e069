use Rattle.std.proofs.Common.{length}
use Rattle.shape_exec.proofs.blocks.+push_places_from.Given as goal

abbrev pub decreases-push_places_from : goal.decreases-push_places_from
decreases-push_places_from l = length l.at.now
