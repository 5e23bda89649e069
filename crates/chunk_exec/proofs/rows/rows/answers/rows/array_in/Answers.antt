use Rattle.std.proofs.Common.{sym, ◌∙◌}
use Rattle.chunk_exec.proofs.WholeRows.{cores_found}
use Rattle.chunk_exec.proofs.rows.rows.answers.rows.array_in.Goals as goal

pub returns-in-None-clause-found : goal.returns-in-None-clause-found
returns-in-None-clause-found c = λ meant is. cores_found c.args.array meant is (c.first_fault.ensures.whole c.in-None.is) (sym (c.first_fault.ensures.first meant is) ∙ c.in-None.is)
