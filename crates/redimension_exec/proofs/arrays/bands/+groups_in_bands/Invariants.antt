use Rattle.std.proofs.Common.{length}
use Rattle.redimension_exec.proofs.arrays.bands.+groups_in_bands.Given as goal

abbrev pub decreases-groups_in_bands : goal.decreases-groups_in_bands
decreases-groups_in_bands l = length l.chunks.now
