use Rattle.std.proofs.Common.{ap, ◌∙◌}
use Rattle.afl_trees.specs.Term.{opposite}
use Rattle.afl_parser.proofs.grown.Grown.opposite.Goals as goal

pub returns : goal.returns
returns c = ap (opposite c.args.span) (c.in_ok-new.ensures.ok ∙ c.a.view_is)
