use Rattle.std.proofs.Common.{List, [], ◌∷◌, ◌++◌, max, sym, ap, ◌∙◌}
use Rattle.afl_trees.specs.Grammar.{height, heights}
use Rattle.afl_trees.specs.Term.{Term, to_terms}
use Rattle.afl_parser.proofs.Heights.{heights_of_more}
use Rattle.afl_parser.proofs.grown.Arguments.with.Goals as goal

pub invariant_of-result : goal.invariant_of-result
invariant_of-result c =
    let inside = c.self.inside.trees in
    c.max-depth.ensures
    ∙ ap (λ n. max n c.argument.inside.depth) c.self.invariant
    ∙ ap (λ n. max (heights (to_terms inside)) n) (c.argument.invariant ∙ ap height (c.argument.view_is ∙ sym c.into_tree.ensures))
    ∙ sym (heights_of_more inside c.into_tree.result)
    ∙ sym (ap (λ (l : List Term). heights (to_terms l)) c.in-Ok.ensures)

pub returns-in-Ok : goal.returns-in-Ok
returns-in-Ok c =
    c.in-Ok.ensures
    ∙ ap (λ (l : List Term). l ++ c.into_tree.result ∷ []) c.self.view_is
    ∙ ap (λ (x : Term). c.args.self ++ x ∷ []) c.into_tree.ensures
