use Rattle.command_words.proofs.words.laws.worked_words.Goals as goal
use Rattle.command_words.proofs.Answering.{worked}

pub returns : goal.returns
returns c = worked
