use Rattle.afl_lexer.proofs.StandingLemmas.{reads_nothing}
use Rattle.afl_lexer.proofs.splitter.Splitter.new.Goals as goal

pub returns : goal.returns
returns c = rw c.in_ok-with_capacity.ensures.items reads_nothing
