use Rattle.std.proofs.Common.{ap, ◌∙◌}
use Rattle.afl_trees.specs.Term.{Term, binary}
use Rattle.afl_parser.proofs.grown.Grown.binary.Goals as goal

pub returns-in-Ok : goal.returns-in-Ok
returns-in-Ok c =
    ap (λ (l : Term). binary c.args.span c.args.op l c.in-Ok.right.value) (c.in-Ok.ensures.0 ∙ c.into_tree.ensures)
    ∙ ap (λ (r : Term). binary c.args.span c.args.op c.args.a r) (c.in-Ok.ensures.1 ∙ c.into_tree-2.ensures)
