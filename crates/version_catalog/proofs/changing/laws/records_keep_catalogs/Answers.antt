use Rattle.version_catalog.proofs.Kept.{records_keep_catalogs}
use Rattle.version_catalog.proofs.changing.laws.records_keep_catalogs.Goals as goal

pub returns : goal.returns
returns c = records_keep_catalogs
