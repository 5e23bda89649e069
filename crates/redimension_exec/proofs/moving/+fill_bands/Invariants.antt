use Rattle.std.proofs.Common.{length}
use Rattle.redimension_exec.proofs.moving.+fill_bands.Given as goal

abbrev pub decreases-fill_bands : goal.decreases-fill_bands
decreases-fill_bands l = length l.chunks.now
