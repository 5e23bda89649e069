use Rattle.chunk_workers.proofs.workers.+add_runs.Given as goal

abbrev pub decreases-add_runs : goal.decreases-add_runs
decreases-add_runs g l = l.workers
