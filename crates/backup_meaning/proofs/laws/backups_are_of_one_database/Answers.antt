use Rattle.backup_meaning.proofs.OneDatabase as told
use Rattle.backup_meaning.proofs.laws.backups_are_of_one_database.Goals as goal

pub returns : goal.returns
returns c = told.backups_are_of_one_database
