use Rattle.plan_changes.proofs.DatabaseLaws.{changes_keep_databases}
use Rattle.plan_changes.proofs.laws.changes_keep_databases.Goals as goal

pub returns : goal.returns
returns c = changes_keep_databases
