use Rattle.std.proofs.Common.{◌≡◌, ◌∙◌, List, ap, sym}
use Rattle.std.specs.List.{list_any}
use Rattle.store_versions.proofs.Tests.{any_map}
use Rattle.store_versions.specs.declared.lean.lean.pin.LeanPin.{LeanPin}
use Rattle.store_versions.specs.States.{place_of, core_place}
use Rattle.store_ledger.specs.declared.note.Note.{Note}
use Rattle.store_ledger.specs.Ledger.{LedgerState}
use Rattle.store_ledger.proofs.Told.{faulted_told, faulty_at}
use Rattle.store_ledger.proofs.ledger.Ledger.has_fault.Goals as goal

pub returns : goal.returns
returns c =
    let i = c.self.inside in
    let session = c.args.session in
    let ledger : LedgerState = record { base = i.base.value; limit = i.limit; entries = i.entries.items; notes = i.notes.items } in
    let told : c.is_faulted.result ≡ list_any (λ (pin : LeanPin). faulty_at c.as_slice.result.now session (place_of pin)) c.pins.result.now = c.is_faulted.ensures in
    told
    ∙ ap (λ (notes : List Note). list_any (λ (pin : LeanPin). faulty_at notes session (place_of pin)) c.pins.result.now) c.as_slice.ensures.value
    ∙ sym (any_map place_of (faulty_at i.notes.items session) c.pins.result.now)
    ∙ ap (list_any (faulty_at i.notes.items session)) c.pins.ensures
    ∙ any_map core_place (faulty_at i.notes.items session) i.core.core.pins
    ∙ faulted_told ledger c.args.self.now session i.core.core i.reserved _ _ _ c.self.view_is c.self.invariant.0
