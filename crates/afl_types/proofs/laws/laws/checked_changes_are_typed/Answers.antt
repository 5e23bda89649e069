use Rattle.afl_types.proofs.TypedChanges.{changes_typed}
use Rattle.afl_types.proofs.laws.laws.checked_changes_are_typed.Goals as goal

pub returns : goal.returns
returns c = changes_typed
