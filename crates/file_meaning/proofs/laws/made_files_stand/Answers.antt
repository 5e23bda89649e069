use Rattle.file_meaning.proofs.Made.{made_stands}
use Rattle.file_meaning.proofs.laws.made_files_stand.Goals as goal

pub returns : goal.returns
returns c = made_stands
