use Rattle.std.proofs.Common.{refl}
use Rattle.store_versions.proofs.States.{pin_keeps, pin_tells}
use Rattle.store_versions.proofs.lean.lean.state.LeanCore.pin.Goals as goal

pub invariant_of-self-2 : goal.invariant_of-self-2
invariant_of-self-2 c =
    let i = c.self.inside in
    pin_keeps i.rows.items i.pins.items _ i.entries _ c.self.invariant c.in_ok-push.ensures.items refl

pub returns-clause-ok : goal.returns-clause-ok
returns-clause-ok c =
    let i = c.self.inside in
    pin_tells i.names i.rows.items i.catalogue i.pins.items _ i.free i.limit i.entries c.args.session _ _ c.args.self.now c.self.view_is c.self.invariant c.in_ok-push.ensures.items refl refl c.of.ensures
