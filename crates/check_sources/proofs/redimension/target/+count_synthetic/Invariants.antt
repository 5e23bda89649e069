use Rattle.std.proofs.Common.{length}
use Rattle.check_sources.proofs.redimension.target.+count_synthetic.Given as goal

abbrev pub decreases-count_synthetic : goal.decreases-count_synthetic
decreases-count_synthetic l = length l.dimensions.now
