use Rattle.std.proofs.Common.{length}
use Rattle.check_rules.proofs.literals.rows.+fit_attributes.Given as goal

abbrev pub decreases-fit_attributes : goal.decreases-fit_attributes
decreases-fit_attributes l = length l.values.now
