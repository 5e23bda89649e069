use Rattle.std.proofs.Common.{ap, ◌∙◌}
use Rattle.afl_trees.specs.Term.{Term, renamed}
use Rattle.afl_parser.proofs.grown.Grown.renamed.Goals as goal

pub returns-in-Ok : goal.returns-in-Ok
returns-in-Ok c =
    ap (λ (a : Term). renamed c.args.span a c.in-Ok.name) (c.in-Ok.ensures.0 ∙ c.a.view_is) ∙ ap (renamed c.args.span c.args.a) c.in-Ok.ensures.1
