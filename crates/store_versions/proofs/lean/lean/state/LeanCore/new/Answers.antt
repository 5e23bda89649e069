use Rattle.store_versions.proofs.States.{new_lean, new_core}
use Rattle.store_versions.proofs.lean.lean.state.LeanCore.new.Goals as goal

pub invariant_of-result : goal.invariant_of-result
invariant_of-result c = new_lean c.args.core _ _ c.in-Ok.ensures c.new.ensures.items

pub returns-in-Ok : goal.returns-in-Ok
returns-in-Ok c = new_core c.args.core _ _ c.requires c.in-Ok.ensures c.new.ensures.items
