use Rattle.std.proofs.Common.{ap, ◌∙◌}
use Rattle.afl_trees.specs.Term.{group}
use Rattle.afl_parser.proofs.grown.Grown.group.Goals as goal

pub returns : goal.returns
returns c = ap (group c.args.span) (c.in_ok-new.ensures.ok ∙ c.a.view_is)
