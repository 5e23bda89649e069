use Rattle.std.proofs.Common.{ℕ, sym, ap, subst, ◌∙◌}
use Rattle.afl_lexer.specs.Lexemes.{what_of}
use Rattle.afl_parser.specs.Inner.Machine.{operated, operated_or_joined, settle}
use Rattle.afl_parser.specs.Inner.Reply.{Gives}
use Rattle.afl_parser.proofs.reader.extend.Goals as goal

pub returns-in_ok-stack-in-Some : goal.returns-in_ok-stack-in-Some
returns-in_ok-stack-in-Some c bytes =
    let op = c.in-Some.op in
    let what = what_of c.args.token.kind bytes in
    subst (Gives c.operate.result)
    (sym (ap (operated_or_joined 128 c.args.stack c.args.tree c.args.token.span what) (sym (c.operator_of.ensures bytes) ∙ c.in-Some.is)
    ∙ ap (λ (n : ℕ). operated 128 op (settle n c.args.stack c.args.tree)) (sym c.operator_line.ensures)
    ∙ ap (operated 128 op) c.in_ok-stack-in-Some.ensures.settled))
    c.operate.ensures

pub returns-in-None : goal.returns-in-None
returns-in-None c bytes =
    subst (Gives c.join.result)
    (sym (ap (operated_or_joined 128 c.args.stack c.args.tree c.args.token.span (what_of c.args.token.kind bytes)) (sym (c.operator_of.ensures bytes) ∙ c.in-None.is)))
    (c.join.ensures bytes)
