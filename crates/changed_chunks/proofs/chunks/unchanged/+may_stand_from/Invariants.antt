use Rattle.std.proofs.Common.{length}
use Rattle.changed_chunks.proofs.chunks.unchanged.+may_stand_from.Given as goal

abbrev pub decreases-may_stand_from : goal.decreases-may_stand_from
decreases-may_stand_from l = length l.attributes.now
