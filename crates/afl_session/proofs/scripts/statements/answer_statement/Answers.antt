use Rattle.afl_session.proofs.ServingLemmas.{stops_before}
use Rattle.afl_session.proofs.scripts.statements.answer_statement.Goals as goal

pub returns-in-Ok-clause-goes_on : goal.returns-in-Ok-clause-goes_on
returns-in-Ok-clause-goes_on g c = rw c.in-Ok.ensures.items at c.answer_marked.ensures.goes_on

pub returns-in-Err-clause-goes_on : goal.returns-in-Err-clause-goes_on
returns-in-Err-clause-goes_on g c session own = rw c.in-Err.ensures.items (stops_before _ _ _ _)

pub answer_marked-requires-clause-seat : goal.answer_marked-requires-clause-seat
answer_marked-requires-clause-seat g c κs within = c.requires.seat

pub answer_marked-requires-clause-none : goal.answer_marked-requires-clause-none
answer_marked-requires-clause-none g c κs within = c.requires.none

pub answer_marked-requires-clause-workers : goal.answer_marked-requires-clause-workers
answer_marked-requires-clause-workers g c κs within = c.requires.workers
