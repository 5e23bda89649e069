use Rattle.std.proofs.lemmas.Result.{on_ok_weaker}
use Rattle.chunk_workers.proofs.workers.push_work.Goals as goal

pub returns-in-Ok : goal.returns-in-Ok
returns-in-Ok g c = on_ok_weaker c.push.result (λ pushed. (c.in-Ok.one, c.in-Ok.ensures, pushed)) c.push.ensures.ok
