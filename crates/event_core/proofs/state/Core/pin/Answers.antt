use Rattle.std.proofs.Common.{◌≡◌, ◌∙◌, ◌+◌, [], ◌∷◌, ◌++◌}
use Rattle.event_core.specs.Replay.{pin_of}
use Rattle.event_core.proofs.state.Core.pin.Goals as goal

pub returns-clause-ok : goal.returns-clause-ok
returns-clause-ok c =
    let core = c.args.self.now in
    let pins : c.push.new.self ≡ core.pins ++ pin_of core c.args.session ∷ [] =
    c.in_ok-push.ensures.ok
    ∙ (λ i. core.pins ++ record { session = c.args.session; place = core.entries; names = c.in_ok-copy.ensures i; pages = c.in_ok-copy-2.ensures i } ∷ []) in
    λ i. record core { pins = pins i; entries = core.entries + 1 }
