use Rattle.std.proofs.Common.{◌≡◌, ◌∙◌, ◌+◌, length, ap}
use Rattle.store_opening.specs.At.{standing}
use Rattle.store_opening.specs.Events.{events}
use Rattle.array_store.proofs.Counted.{events_count}
use Rattle.array_store.proofs.store.store.StoreHistory.count.Goals as goal

pub returns : goal.returns
returns g c =
    let moment = g.D.Disk.moment in
    let parts = c.self.inside.parts in
    let counts : length c.entries.result.now + length c.notes.result.now ≡ length parts.ledger.entries + length parts.ledger.notes =
    λ i. length (c.entries.ensures i) + length (c.notes.ensures i) in
    counts ∙ events_count (standing moment parts) ∙ ap (λ p. length (events (standing moment p))) c.self.view_is
