use Rattle.command_words.proofs.words.laws.forms_are_unique.Goals as goal
use Rattle.command_words.proofs.Answering.{one_form}

pub returns : goal.returns
returns c = one_form
