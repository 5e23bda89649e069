use Rattle.session_threads.proofs.reaper.fn.work_beside.sessions+FnOnce.call_once.Goals as goal

pub returns : goal.returns
returns g c = c.sessions.ensures
