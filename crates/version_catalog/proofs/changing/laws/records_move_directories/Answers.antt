use Rattle.version_catalog.proofs.DirectoryLaws.{move_directories}
use Rattle.version_catalog.proofs.changing.laws.records_move_directories.Goals as goal

pub returns : goal.returns
returns c = move_directories
