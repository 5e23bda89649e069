use Rattle.std.proofs.Common.{◌∙◌, ◌&&◌, Bool, ap, sym}
use Rattle.std.specs.List.{list_any}
use Rattle.version_reaper.specs.PageSets.{pages_below}
use Rattle.store_versions.specs.Pages.{is_awaiting}
use Rattle.store_ledger.specs.Ledger.{LedgerState, history}
use Rattle.store_ledger.proofs.Opened.{awaiting_told}
use Rattle.store_ledger.proofs.ledger.Ledger.reap_comes.Goals as goal

pub returns-then-has_room-clause-comes : goal.returns-then-has_room-clause-comes
returns-then-has_room-clause-comes c =
    let i = c.self.inside in
    let now : LedgerState = c.args.self.now in
    let ledger : LedgerState = record { base = i.base.value; limit = i.limit; entries = i.entries.items; notes = i.notes.items } in
    c.would_free.ensures.some
    ∙ awaiting_told ledger i.core.core i.reserved _ _ _ c.self.invariant.0
    ∙ ap (λ (l : LedgerState). list_any (is_awaiting l.base (history l)) (pages_below l.base.limit)) c.self.view_is
    ∙ ap (λ (b : Bool). b && list_any (is_awaiting now.base (history now)) (pages_below now.base.limit)) (sym c.if-has_room.true ∙ c.has_room.ensures)
