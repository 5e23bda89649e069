use Rattle.file_meaning.proofs.WrongSlots.{wrong_file}
use Rattle.file_meaning.proofs.laws.wrong_slots_are_wrong.Goals as goal

pub returns : goal.returns
returns c = wrong_file
