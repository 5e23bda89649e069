use Rattle.version_catalog.proofs.DirectoryLaws.{are_allowed, do_their_change}
use Rattle.version_catalog.proofs.changing.laws.records_do_their_change.Goals as goal

pub returns : goal.returns
returns c = record { allowed = are_allowed; same = do_their_change }
