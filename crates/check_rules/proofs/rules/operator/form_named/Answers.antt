use Rattle.check_rules.specs.Operators.{form_named}
use Rattle.afl_lexer.proofs.Words.{follows}
use Rattle.check_rules.proofs.rules.operator.form_named.Goals as goal

pub returns : goal.returns
unfolding form_named
returns c =
    follows _ _ c.if_spelled-found-6.ensures (follows _ _ c.if_spelled-found-5.ensures (
    follows _ _ c.if_spelled-found-4.ensures (follows _ _ c.if_spelled-found-3.ensures (
    follows _ _ c.if_spelled-found-2.ensures (c.if_spelled-found.ensures)))))
