use Rattle.store_versions.proofs.Worked.{worked_seen, pin_needs, forgotten_later}
use Rattle.store_versions.proofs.laws.a_table_is_seen.Goals as goal

pub returns-clause-seen : goal.returns-clause-seen
returns-clause-seen c = worked_seen

pub returns-clause-kept : goal.returns-clause-kept
returns-clause-kept c = pin_needs

pub returns-clause-forgotten : goal.returns-clause-forgotten
returns-clause-forgotten c = forgotten_later
