use Rattle.plan_changes.proofs.StoredLaws.{changes_keep_names}
use Rattle.plan_changes.proofs.laws.changes_keep_names.Goals as goal

pub returns : goal.returns
returns c = changes_keep_names
