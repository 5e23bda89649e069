use Rattle.check_exprs.proofs.InnerFaults.{inner_first}
use Rattle.check_exprs.proofs.laws.inner_faults_come_first.Goals as goal

pub returns : goal.returns
returns c = inner_first
