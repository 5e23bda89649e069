use Rattle.file_meaning.proofs.One.{one_database}
use Rattle.file_meaning.proofs.laws.files_stand_for_one_database.Goals as goal

pub returns : goal.returns
returns c = one_database
