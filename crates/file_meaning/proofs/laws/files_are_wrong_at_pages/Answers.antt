use Rattle.file_meaning.proofs.WorkedFiles.{files_are_wrong}
use Rattle.file_meaning.proofs.laws.files_are_wrong_at_pages.Goals as goal

pub returns : goal.returns
returns c = files_are_wrong
