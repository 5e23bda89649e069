use Rattle.afl_run.proofs.generated.prepare.Goals as goal

pub returns-clause-disk : goal.returns-clause-disk
returns-clause-disk g c = c.in_ok-empty_database.ensures
