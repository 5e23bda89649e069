use Rattle.std.proofs.Common.{◌∙◌, take, drop, ap}
use Rattle.chunk_workers.proofs.workers.cut.Goals as goal

pub returns-in-Ok-clause-low : goal.returns-in-Ok-clause-low
returns-in-Ok-clause-low g c = c.from_vec.ensures ∙ c.in-Ok.ensures.items ∙ ap (take c.args.at) c.into_vec-low.ensures

pub returns-in-Ok-clause-high : goal.returns-in-Ok-clause-high
returns-in-Ok-clause-high g c = c.from_vec-in-Ok.ensures ∙ c.in-Ok.ensures.tail ∙ ap (drop c.args.at) c.into_vec-low.ensures
