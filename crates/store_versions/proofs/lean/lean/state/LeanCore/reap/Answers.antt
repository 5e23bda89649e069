use Rattle.store_versions.proofs.States.{later_lean, reap_tells}
use Rattle.store_versions.proofs.lean.lean.state.LeanCore.reap.Goals as goal

pub invariant_of-self : goal.invariant_of-self
invariant_of-self c = later_lean c.self.inside.rows.items c.self.inside.pins.items c.self.inside.entries c.self.invariant

pub returns-clause-ok : goal.returns-clause-ok
returns-clause-ok c =
    let i = c.self.inside in
    reap_tells i.names i.rows.items i.catalogue i.pins.items i.free _ i.limit i.entries _ c.args.self.now c.self.view_is c.in_ok-free.ensures
