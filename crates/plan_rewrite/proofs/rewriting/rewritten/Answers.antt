use Rattle.plan_rewrite.proofs.Settling.{stands}
use Rattle.plan_rewrite.proofs.rewriting.rewritten.Goals as goal

pub returns : goal.returns
returns c = stands c.settle.result c.args.plan.now c.requires c.settle.ensures
