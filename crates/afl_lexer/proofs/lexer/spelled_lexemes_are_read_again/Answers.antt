use Rattle.afl_lexer.proofs.Printing.{read_again}
use Rattle.afl_lexer.proofs.lexer.spelled_lexemes_are_read_again.Goals as goal

pub returns : goal.returns
returns c = read_again
