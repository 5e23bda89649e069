use Rattle.afl_parser.proofs.TextLaws.{text_tree_or_stop, text_not_both, text_one_tree, text_one_stop}
use Rattle.afl_parser.proofs.laws.texts_have_tree_or_stop.Goals as goal

pub returns-clause-tree_or_stop : goal.returns-clause-tree_or_stop
returns-clause-tree_or_stop c = text_tree_or_stop c.texts_have_tokens_or_stop.ensures.tokens_or_stop

pub returns-clause-not_both : goal.returns-clause-not_both
returns-clause-not_both c = text_not_both c.texts_have_tokens_or_stop.ensures.not_both c.texts_have_tokens_or_stop.ensures.one_list

pub returns-clause-one_tree : goal.returns-clause-one_tree
returns-clause-one_tree c = text_one_tree c.texts_have_tokens_or_stop.ensures.not_both c.texts_have_tokens_or_stop.ensures.one_list

pub returns-clause-one_stop : goal.returns-clause-one_stop
returns-clause-one_stop c = text_one_stop c.texts_have_tokens_or_stop.ensures.not_both c.texts_have_tokens_or_stop.ensures.one_list c.texts_have_tokens_or_stop.ensures.one_stop
