use Rattle.afl_lexer.proofs.lexer.texts_have_tokens_or_stop.Goals as goal
use Rattle.afl_lexer.proofs.Walks.{tokens_or_stop, not_both, one_list, one_stop}

pub returns-clause-tokens_or_stop : goal.returns-clause-tokens_or_stop
returns-clause-tokens_or_stop c = tokens_or_stop

pub returns-clause-not_both : goal.returns-clause-not_both
returns-clause-not_both c = not_both

pub returns-clause-one_list : goal.returns-clause-one_list
returns-clause-one_list c = one_list

pub returns-clause-one_stop : goal.returns-clause-one_stop
returns-clause-one_stop c = one_stop
