use Rattle.afl_types.proofs.Saying.{changes_say, changes_stay}
use Rattle.afl_types.proofs.laws.names.laws.checked_changes_say_their_names.Goals as goal

pub returns-clause-names : goal.returns-clause-names
returns-clause-names c = changes_say

pub returns-clause-stay : goal.returns-clause-stay
returns-clause-stay c = changes_stay
