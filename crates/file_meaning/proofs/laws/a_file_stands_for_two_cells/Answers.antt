use Rattle.file_meaning.proofs.WorkedFiles.{file_stands}
use Rattle.file_meaning.proofs.laws.a_file_stands_for_two_cells.Goals as goal

pub returns : goal.returns
returns c = file_stands
