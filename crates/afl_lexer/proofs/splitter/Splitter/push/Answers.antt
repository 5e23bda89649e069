-- The piece is the one that `begin` leaves, and the byte ends it or makes it longer.
use Rattle.std.proofs.Common.{sym, ◌∙◌}
use Rattle.afl_lexer.specs.Inner.Standing.{reading}
use Rattle.afl_lexer.proofs.StandingLemmas.{end_stands, end_step, end_told, more_stands, more_told}
use Rattle.afl_lexer.proofs.splitter.Splitter.push.Goals as goal

pub returns-then-is_end-clause-stands : goal.returns-then-is_end-clause-stands
returns-then-is_end-clause-stands c = λ script reads.
    rw (c.end.ensures.ended, c.begin.ensures) (end_stands script (reading c.args.self.now) reads c.args.byte (rw (← c.begin.ensures) (sym c.is_end.ensures ∙ c.if-is_end.true)))

pub returns-then-is_end-clause-step : goal.returns-then-is_end-clause-step
returns-then-is_end-clause-step c = λ script reads.
    rw (c.end.ensures.step, c.begin.ensures) (end_step script (reading c.args.self.now) reads c.args.byte (rw (← c.begin.ensures) (sym c.is_end.ensures ∙ c.if-is_end.true)))

pub returns-then-is_end-clause-statements : goal.returns-then-is_end-clause-statements
returns-then-is_end-clause-statements c = λ script reads.
    rw (c.end.ensures.step, c.end.ensures.ended, c.begin.ensures) (end_told script (reading c.args.self.now) reads c.args.byte (rw (← c.begin.ensures) (sym c.is_end.ensures ∙ c.if-is_end.true)))

pub returns-clause-stands : goal.returns-clause-stands
returns-clause-stands c = λ script reads.
    rw (c.read.ensures, c.begin.ensures) (more_stands script (reading c.args.self.now) reads c.args.byte (rw (← c.begin.ensures) (sym c.is_end.ensures ∙ c.if-is_end.false)))

pub returns-clause-statements : goal.returns-clause-statements
returns-clause-statements c = λ script reads.
    more_told script (reading c.args.self.now) reads c.args.byte (rw (← c.begin.ensures) (sym c.is_end.ensures ∙ c.if-is_end.false))
