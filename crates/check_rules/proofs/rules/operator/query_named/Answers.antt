use Rattle.check_rules.specs.Operators.{query_named}
use Rattle.afl_lexer.proofs.Words.{follows}
use Rattle.check_rules.proofs.rules.operator.query_named.Goals as goal

pub returns : goal.returns
unfolding query_named
returns c =
    follows _ _ c.if_spelled-found-23.ensures (follows _ _ c.if_spelled-found-22.ensures (
    follows _ _ c.if_spelled-found-21.ensures (follows _ _ c.if_spelled-found-20.ensures (
    follows _ _ c.if_spelled-found-19.ensures (follows _ _ c.if_spelled-found-18.ensures (
    follows _ _ c.if_spelled-found-17.ensures (follows _ _ c.if_spelled-found-16.ensures (
    follows _ _ c.if_spelled-found-15.ensures (follows _ _ c.if_spelled-found-14.ensures (
    follows _ _ c.if_spelled-found-13.ensures (follows _ _ c.if_spelled-found-12.ensures (
    follows _ _ c.if_spelled-found-11.ensures (follows _ _ c.if_spelled-found-10.ensures (
    follows _ _ c.if_spelled-found-9.ensures (follows _ _ c.if_spelled-found-8.ensures (
    follows _ _ c.if_spelled-found-7.ensures (follows _ _ c.if_spelled-found-6.ensures (
    follows _ _ c.if_spelled-found-5.ensures (follows _ _ c.if_spelled-found-4.ensures (
    follows _ _ c.if_spelled-found-3.ensures (follows _ _ c.if_spelled-found-2.ensures (c.if_spelled-found.ensures))))))))))))))))))))))
