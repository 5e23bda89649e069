use Rattle.std.proofs.Common.{◌∙◌, ap}
use Rattle.store_versions.specs.Core.{Core}
use Rattle.store_versions.specs.History.{catalogue_at}
use Rattle.store_ledger.specs.Ledger.{LedgerState, history}
use Rattle.store_ledger.proofs.Told.{is_ledger}
use Rattle.store_ledger.proofs.ledger.Ledger.catalogue.Goals as goal

pub returns-clause-catalogue : goal.returns-clause-catalogue
returns-clause-catalogue c = c.catalogue.ensures ∙ ap (λ (k : Core). k.catalogue) c.self.invariant.0.made ∙ ap (λ (l : LedgerState). catalogue_at l.base (history l)) c.self.view_is

pub returns-clause-ledger : goal.returns-clause-ledger
returns-clause-ledger c =
    let i = c.self.inside in
    let ledger : LedgerState = record { base = i.base.value; limit = i.limit; entries = i.entries.items; notes = i.notes.items } in
    is_ledger ledger c.args.self.now i.core.core i.reserved _ _ _ c.self.view_is c.self.invariant.0
