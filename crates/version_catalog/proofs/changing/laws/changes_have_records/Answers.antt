use Rattle.version_catalog.proofs.Spelled.{changes_have_records}
use Rattle.version_catalog.proofs.changing.laws.changes_have_records.Goals as goal

pub returns : goal.returns
returns c = changes_have_records
