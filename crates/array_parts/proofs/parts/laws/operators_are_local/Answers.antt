use Rattle.array_parts.proofs.PartLemmas.{changes_are_local, cuts_are_local}
use Rattle.array_parts.proofs.parts.laws.operators_are_local.Goals as goal

pub returns-clause-changes : goal.returns-clause-changes
returns-clause-changes c = changes_are_local

pub returns-clause-cuts : goal.returns-clause-cuts
returns-clause-cuts c = cuts_are_local
