use Rattle.std.proofs.Common.{◌≡◌, List, max, sym, ap, ◌∙◌, arith}
use Rattle.afl_trees.specs.Grammar.{height, heights}
use Rattle.afl_trees.specs.Term.{Term, call, to_terms}
use Rattle.afl_parser.specs.Inner.Machine.{Go}
use Rattle.afl_parser.specs.declared.frame.Focus.TheVariants.{Have}
use Rattle.afl_parser.specs.declared.frame.Frame.{Frame}
use Rattle.afl_parser.proofs.Heights.{heights_of_more}
use Rattle.afl_parser.proofs.reader.end_arguments.Goals as goal

pub end_call-requires : goal.end_call-requires
end_call-requires c =
    let highest : heights (to_terms c.in-Ok.arguments) ≡ max (heights (to_terms c.args.arguments)) (height c.args.tree)
    = ap (λ (l : List Term). heights (to_terms l)) c.in-Ok.ensures ∙ heights_of_more c.args.arguments c.args.tree in
    omega (arith, highest, c.requires.arguments, c.requires.tree)

pub returns-in-Ok : goal.returns-in-Ok
returns-in-Ok c =
    ap (λ (l : List Term). Go c.args.stack (Have (call c.args.span c.args.name (to_terms l)))) (sym c.in-Ok.ensures)
    ∙ ap (Go c.args.stack) (sym c.end_call.ensures.1)
    ∙ ap (λ (k : List Frame). Go k c.end_call.result.focus) (sym c.end_call.ensures.0)
