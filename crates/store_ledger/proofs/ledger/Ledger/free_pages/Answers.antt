use Rattle.std.proofs.Common.{◌∙◌, ap, length}
use Rattle.store_ledger.specs.Ledger.{LedgerState, unused_pages}
use Rattle.store_ledger.proofs.Opened.{unused_told}
use Rattle.store_ledger.proofs.ledger.Ledger.free_pages.Goals as goal

pub returns-clause-count : goal.returns-clause-count
returns-clause-count c =
    let i = c.self.inside in
    let ledger : LedgerState = record { base = i.base.value; limit = i.limit; entries = i.entries.items; notes = i.notes.items } in
    c.count_unused.ensures.count
    ∙ ap length (unused_told ledger i.core.core i.reserved _ _ _ c.self.invariant.0)
    ∙ ap (λ (l : LedgerState). length (unused_pages l)) c.self.view_is
