use Rattle.std.proofs.Common.{◌≡◌, ◌∙◌, ◌+◌, not, nat_eq, ap}
use Rattle.std.specs.List.{filter}
use Rattle.event_core.specs.declared.state.CorePin.{CorePin}
use Rattle.event_core.proofs.state.Core.unpin.Goals as goal

pub returns : goal.returns
returns c =
    let core = c.args.self.now in
    let others = λ (pin : CorePin). not (nat_eq pin.session c.args.session) in
    let pins : c.without_session.result ≡ filter others core.pins = c.without_session.ensures ∙ ap (filter others) c.take-pins.ensures.items in
    λ i. record core { pins = pins i; entries = core.entries + 1 }
