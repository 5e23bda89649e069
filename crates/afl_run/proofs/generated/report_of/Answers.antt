use Rattle.afl_run.proofs.GeneratedLemmas.{popped}
use Rattle.afl_run.proofs.generated.report_of.Goals as goal

pub returns-clause-generated : goal.returns-clause-generated
returns-clause-generated g c = popped c.pop-generated.result c.args.run.sessions c.pop-generated.new.self c.pop-generated.ensures c.requires
