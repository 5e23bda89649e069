use Rattle.logical_plan.specs.Meaning.{meaning}
use Rattle.chunk_exec.proofs.rows.rows.answers.rows.array_of.Goals as goal

pub returns-in-Ok-clause-found : goal.returns-in-Ok-clause-found
returns-in-Ok-clause-found g c = λ db tells. c.array_in.ensures.found (meaning db c.args.plan.now) (c.in-Ok.ensures.means db tells)
