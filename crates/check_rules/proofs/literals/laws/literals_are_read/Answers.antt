use Rattle.check_rules.proofs.LiteralComplete.{complete}
use Rattle.check_rules.proofs.LiteralSound.{sound}
use Rattle.check_rules.proofs.TextLemmas.{literal_tokens, texts_are_read, rows_are_read}
use Rattle.check_rules.proofs.literals.laws.literals_are_read.Goals as goal

pub returns-clause-marks : goal.returns-clause-marks
returns-clause-marks c bare marks elements = (sound bare elements marks, complete bare elements marks)

pub returns-clause-tokens : goal.returns-clause-tokens
returns-clause-tokens c = literal_tokens

pub returns-clause-elements : goal.returns-clause-elements
returns-clause-elements c = texts_are_read

pub returns-clause-rows : goal.returns-clause-rows
returns-clause-rows c = rows_are_read
