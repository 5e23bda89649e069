use Rattle.std.proofs.Common.{ap, ◌∙◌}
use Rattle.afl_trees.specs.Term.{negative}
use Rattle.afl_parser.proofs.grown.Grown.negative.Goals as goal

pub returns : goal.returns
returns c = ap (negative c.args.span) (c.in_ok-new.ensures.ok ∙ c.a.view_is)
