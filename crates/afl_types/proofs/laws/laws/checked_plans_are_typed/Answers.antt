use Rattle.afl_types.proofs.TypedQueries.{checked_typed}
use Rattle.afl_types.proofs.laws.laws.checked_plans_are_typed.Goals as goal

pub returns : goal.returns
returns c = checked_typed
