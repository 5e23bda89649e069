use Rattle.std.proofs.Common.{length}
use Rattle.array_rows.proofs.columns.faults.+fault_of_values.Given as goal

abbrev pub decreases-fault_of_values : goal.decreases-fault_of_values
decreases-fault_of_values l = length l.values.now
