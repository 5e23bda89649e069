use Rattle.std.proofs.Common.{◌∙◌, ap, map, reverse}
use Rattle.store_versions.specs.Core.{Core}
use Rattle.store_versions.specs.History.{open_pins}
use Rattle.store_versions.specs.States.{core_place}
use Rattle.store_ledger.specs.Ledger.{LedgerState, history, open_place}
use Rattle.store_ledger.proofs.Told.{is_ledger}
use Rattle.store_ledger.proofs.Versions.{places_told}
use Rattle.store_ledger.proofs.ledger.Ledger.pins.Goals as goal

pub returns-clause-pins : goal.returns-clause-pins
returns-clause-pins c =
    let i = c.self.inside in
    c.pins.ensures ∙ ap (λ (k : Core). map core_place k.pins) c.self.invariant.0.made ∙ places_told i.base.value (open_pins (reverse i.entries.items))
    ∙ ap (λ (l : LedgerState). map open_place (open_pins (history l))) c.self.view_is

pub returns-clause-ledger : goal.returns-clause-ledger
returns-clause-ledger c =
    let i = c.self.inside in
    let ledger : LedgerState = record { base = i.base.value; limit = i.limit; entries = i.entries.items; notes = i.notes.items } in
    is_ledger ledger c.args.self.now i.core.core i.reserved _ _ _ c.self.view_is c.self.invariant.0
