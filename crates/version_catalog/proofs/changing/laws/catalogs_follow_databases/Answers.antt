use Rattle.version_catalog.proofs.DirectoryLaws.{follow_databases}
use Rattle.version_catalog.proofs.changing.laws.catalogs_follow_databases.Goals as goal

pub returns : goal.returns
returns c = follow_databases
