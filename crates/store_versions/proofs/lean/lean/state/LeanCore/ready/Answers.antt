use Rattle.store_versions.proofs.States.{ready_keeps}
use Rattle.store_versions.proofs.lean.lean.state.LeanCore.ready.Goals as goal

pub invariant_of-result : goal.invariant_of-result
invariant_of-result c =
    ready_keeps _ c.args.self.now _ c.in_ok-part.part c.args.change.now c.args.used.now c.changed_name.result.now c.of.ensures c.in-Ok.ensures c.changed_name.ensures c.in_ok-part.ensures
