use Rattle.afl_types.proofs.Agreeing.{checking_reads_names}
use Rattle.afl_types.proofs.laws.names.laws.checking_reads_names.Goals as goal

pub returns : goal.returns
returns c = checking_reads_names
