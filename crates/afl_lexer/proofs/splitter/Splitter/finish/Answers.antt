use Rattle.afl_lexer.specs.Inner.Standing.{reading}
use Rattle.afl_lexer.proofs.StandingLemmas.{step_is, rest_told}
use Rattle.afl_lexer.proofs.splitter.Splitter.finish.Goals as goal

pub returns-clause-step : goal.returns-clause-step
returns-clause-step c = λ script reads. rw (c.step.ensures, c.begin.ensures) (step_is script (reading c.args.self.now) reads)

pub returns-clause-statements : goal.returns-clause-statements
returns-clause-statements c = λ script reads. rw (c.step.ensures, c.begin.ensures) (rest_told script (reading c.args.self.now) reads)
