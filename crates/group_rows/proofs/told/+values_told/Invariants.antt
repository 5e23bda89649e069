use Rattle.std.proofs.Common.{length}
use Rattle.group_rows.proofs.told.+values_told.Given as goal

abbrev pub decreases-values_told : goal.decreases-values_told
decreases-values_told l = length l.states
