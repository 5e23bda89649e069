use Rattle.std.proofs.Common.{◌-◌, length}
use Rattle.afl_lexer.proofs.Walks.{IsReached}
use Rattle.afl_lexer.proofs.lexer.tokens.Given as goal

abbrev pub invariant-loop-at : goal.invariant-loop-at
invariant-loop-at l = IsReached l.text l.tokens l.at

abbrev pub decreases-loop-at : goal.decreases-loop-at
decreases-loop-at l = length l.text - l.at
