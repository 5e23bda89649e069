use Rattle.session_threads.proofs.reaper.work_beside.Goals as goal

pub returns-clause-tasks : goal.returns-clause-tasks
returns-clause-tasks g c = c.beside_reaper.ensures.work
