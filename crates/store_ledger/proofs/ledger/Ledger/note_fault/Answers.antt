use Rattle.std.proofs.Common.{◌≡◌, ◌∙◌, ℕ, [], ◌∷◌, ◌++◌, length, ap, arith}
use Rattle.store_ledger.specs.Ledger.{LedgerState}
use Rattle.store_ledger.specs.declared.note.NoteKind.TheVariants.{Fault}
use Rattle.store_ledger.proofs.Noted.{fault_fits, fault_keeps}
use Rattle.store_ledger.proofs.Parts.{noted}
use Rattle.store_ledger.proofs.ledger.Ledger.note_fault.Goals as goal

pub push_reserved-requires : goal.push_reserved-requires
push_reserved-requires c =
    let i = c.self.inside in
    let ledger : LedgerState = record { base = i.base.value; limit = i.limit; entries = i.entries.items; notes = i.notes.items } in
    omega (arith, fault_fits ledger c.args.self.now c.args.session i.core.core i.reserved _ _ _ c.self.view_is c.self.invariant.0 c.requires.pinned c.requires.first, i.notes.ok.0)

pub invariant_of-self : goal.invariant_of-self
invariant_of-self c =
    let i = c.self.inside in
    let ledger : LedgerState = record { base = i.base.value; limit = i.limit; entries = i.entries.items; notes = i.notes.items } in (
      fault_keeps ledger c.args.self.now c.args.session i.core.core i.reserved _ _ _ c.self.view_is c.self.invariant.0 c.requires.pinned c.len-after.result _ c.push_reserved.new.self.items c.requires.first (omega (arith, c.len-after.ensures, i.entries.ok.0)) c.push_reserved.ensures.items c.push_reserved.ensures.capacity,
      c.self.invariant.1,
    )

pub returns : goal.returns
returns c =
    let i = c.self.inside in
    let ledger : LedgerState = record { base = i.base.value; limit = i.limit; entries = i.entries.items; notes = i.notes.items } in
    let note = λ (after : ℕ). i.notes.items ++ record { session = c.args.session; kind = Fault; after = after } ∷ [] in
    let after : c.len-after.result ≡ length i.entries.items = omega (arith, c.len-after.ensures, i.entries.ok.0) in
    noted ledger c.args.self.now c.self.view_is (record { session = c.args.session; kind = Fault; after = length c.args.self.now.entries } ∷ [])
    c.push_reserved.new.self.items (c.push_reserved.ensures.items ∙ ap note (after ∙ ap (λ (l : LedgerState). length l.entries) c.self.view_is))
