use Rattle.afl_lexer.proofs.Words.{follows}
use Rattle.afl_lexer.proofs.reading.reserved_word.Goals as goal

pub returns : goal.returns
returns c =
    follows _ _ c.if_spelled-found-9.ensures (follows _ _ c.if_spelled-found-8.ensures (
    follows _ _ c.if_spelled-found-7.ensures (follows _ _ c.if_spelled-found-6.ensures (
    follows _ _ c.if_spelled-found-5.ensures (follows _ _ c.if_spelled-found-4.ensures (
    follows _ _ c.if_spelled-found-3.ensures (follows _ _ c.if_spelled-found-2.ensures (
    c.if_spelled-found.ensures))))))))
