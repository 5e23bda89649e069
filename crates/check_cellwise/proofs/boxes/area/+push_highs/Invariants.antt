use Rattle.std.proofs.Common.{length}
use Rattle.check_cellwise.proofs.boxes.area.+push_highs.Given as goal

abbrev pub decreases-push_highs : goal.decreases-push_highs
decreases-push_highs l = length l.dimensions.now
