use Rattle.std.proofs.Common.{length}
use Rattle.group_rows.proofs.runs.+states_with.Given as goal

abbrev pub decreases-states_with : goal.decreases-states_with
decreases-states_with l = length l.states
