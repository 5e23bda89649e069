use Rattle.store_versions.proofs.Seen.{tables_follow_entries}
use Rattle.store_versions.proofs.laws.entries_are_seen.Goals as goal

pub returns : goal.returns
returns c = tables_follow_entries
