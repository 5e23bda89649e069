use Rattle.version_catalog.proofs.Spelled.{changes_keep_catalogs}
use Rattle.version_catalog.proofs.changing.laws.changes_keep_catalogs.Goals as goal

pub returns : goal.returns
returns c = changes_keep_catalogs
