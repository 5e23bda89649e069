use Rattle.std.proofs.Common.{◌∙◌, ◌&&◌, if◌then◌else◌, nat_eq, nat_lt, List, [], ◌∷◌, refl, ap, arith}
use Rattle.std.specs.List.{list_any}
use Rattle.store_versions.specs.Entry.TheVariants.{Unpin}
use Rattle.store_ledger.specs.declared.note.Note.{Note}
use Rattle.store_ledger.specs.Ledger.{LedgerState, is_tried}
use Rattle.store_ledger.proofs.Opened.{unpin_fits, unpin_gives, unpin_keeps}
use Rattle.store_ledger.proofs.Versions.{unpin_room}
use Rattle.store_ledger.proofs.Parts.{entered}
use Rattle.store_ledger.proofs.ledger.Ledger.unpin.Goals as goal

pub push_reserved-requires : goal.push_reserved-requires
push_reserved-requires c =
    let i = c.self.inside in
    let ledger : LedgerState = record { base = i.base.value; limit = i.limit; entries = i.entries.items; notes = i.notes.items } in
    omega (arith, unpin_fits ledger c.args.self.now c.args.pinned i.core.core i.reserved _ _ _ c.self.view_is c.self.invariant.0 c.requires, i.entries.ok.0)

pub overflow_sub-self : goal.overflow_sub-self
overflow_sub-self c =
    let i = c.self.inside in
    let ledger : LedgerState = record { base = i.base.value; limit = i.limit; entries = i.entries.items; notes = i.notes.items } in
    unpin_gives ledger c.args.self.now c.args.pinned i.core.core i.reserved _ _ _ _ c.self.view_is c.self.invariant.0 c.requires (c.reserved_under-reserved.ensures
    ∙ ap (λ (ns : List Note). if list_any (λ note. nat_eq note.session c.args.pinned.session && (is_tried note.kind && nat_lt c.args.pinned.place note.after)) ns then 1 else 3) c.deref.ensures.value)

pub invariant_of-self : goal.invariant_of-self
invariant_of-self c =
    let i = c.self.inside in
    let ledger : LedgerState = record { base = i.base.value; limit = i.limit; entries = i.entries.items; notes = i.notes.items } in (
      unpin_keeps ledger c.args.self.now c.args.pinned i.core.core c.unpin.new.self.core i.reserved _ _ _ _ _ c.push_reserved.new.self.items c.self.view_is c.self.invariant.0 c.requires
          (c.reserved_under-reserved.ensures
          ∙ ap (λ (ns : List Note). if list_any (λ note. nat_eq note.session c.args.pinned.session && (is_tried note.kind && nat_lt c.args.pinned.place note.after)) ns then 1 else 3) c.deref.ensures.value) c.push_reserved.ensures.items c.unpin.ensures.core c.push_reserved.ensures.capacity,
      unpin_room ledger c.args.self.now c.args.pinned i.core.core i.reserved _ _ _ c.push_reserved.new.self.items _ _ c.self.view_is c.self.invariant.0 c.requires
          c.push_reserved.ensures.items c.self.invariant.1 c.unpin.ensures.room,
    )

pub returns : goal.returns
returns c =
    let i = c.self.inside in
    let ledger : LedgerState = record { base = i.base.value; limit = i.limit; entries = i.entries.items; notes = i.notes.items } in
    entered ledger c.args.self.now c.self.view_is (Unpin c.args.pinned.session ∷ []) c.push_reserved.new.self.items i.notes.items c.push_reserved.ensures.items refl
