use Rattle.command_words.proofs.words.laws.faults_are_unique.Goals as goal
use Rattle.command_words.proofs.Answering.{one_place}

pub returns : goal.returns
returns c = one_place
