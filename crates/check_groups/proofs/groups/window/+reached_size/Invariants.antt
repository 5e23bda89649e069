use Rattle.std.proofs.Common.{length}
use Rattle.check_groups.proofs.groups.window.+reached_size.Given as goal

abbrev pub decreases-reached_size : goal.decreases-reached_size
decreases-reached_size l = length l.dimensions.now
