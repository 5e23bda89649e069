use Rattle.std.proofs.Common.{◌∙◌, nat_le, List, [], ◌∷◌, ◌++◌, length, IsTrue, refl, ap, sym, subst, arith}
use Rattle.std.specs.List.{list_all}
use Rattle.store_versions.specs.Entry.{Entry}
use Rattle.store_versions.specs.Entry.TheVariants.{Pin}
use Rattle.store_ledger.specs.Ledger.{LedgerState}
use Rattle.store_ledger.proofs.Opened.{pin_keeps}
use Rattle.store_ledger.proofs.Pins.{pin_untried}
use Rattle.store_ledger.proofs.Told.{is_ledger, notes_are_within}
use Rattle.store_ledger.proofs.Versions.{pin_room}
use Rattle.store_ledger.proofs.Parts.{entered, entries_told, kept_with_room, names_told, opened, versions_with_room}
use Rattle.store_ledger.proofs.ledger.Ledger.pin.Goals as goal

pub invariant_of-self-2 : goal.invariant_of-self-2
invariant_of-self-2 c =
    let i = c.self.inside in
    let ledger : LedgerState = record { base = i.base.value; limit = i.limit; entries = i.entries.items; notes = i.notes.items } in (
      pin_keeps ledger c.args.self.now c.args.session i.core.core c.pin_core.new.core.core i.reserved _ _ _ c.make_room.new.entries.items c.push_reserved.new.self.items c.make_room.new.notes.items _ _
          c.self.view_is c.self.invariant.0 c.requires (sym c.has_room.ensures ∙ c.if-not-has_room.false)
          c.make_room.ensures.entries c.push_reserved.ensures.items c.make_room.ensures.notes c.in_ok-pinned.ensures.ok
          (omega (arith, c.in_ok-make_room.ensures.room.0, c.push_reserved.ensures.capacity)) c.in_ok-make_room.ensures.room.1,
      pin_room ledger c.args.self.now c.args.session i.core.core i.reserved _ _ _ c.make_room.new.entries.items c.push_reserved.new.self.items _
          c.self.view_is c.self.invariant.0 c.requires (sym c.has_room.ensures ∙ c.if-not-has_room.false)
          c.make_room.ensures.entries c.push_reserved.ensures.items c.in_ok-pinned.ensures.room,
    )

pub returns-clause-untried : goal.returns-clause-untried
returns-clause-untried c =
    let i = c.self.inside in
    let ledger : LedgerState = record { base = i.base.value; limit = i.limit; entries = i.entries.items; notes = i.notes.items } in
    λ kinds. pin_untried c.args.session c.make_room.new.entries.items c.push_reserved.new.self.items c.make_room.new.notes.items i.notes.items kinds
    (subst (λ (es : List Entry). IsTrue (list_all (λ note. nat_le note.after (length es)) i.notes.items)) (sym c.make_room.ensures.entries)
    (notes_are_within ledger (is_ledger ledger ledger i.core.core i.reserved _ _ _ refl c.self.invariant.0)))
    c.push_reserved.ensures.items c.make_room.ensures.notes

pub returns-clause-ok : goal.returns-clause-ok
returns-clause-ok c =
    let i = c.self.inside in
    let ledger : LedgerState = record { base = i.base.value; limit = i.limit; entries = i.entries.items; notes = i.notes.items } in
    let more = Pin c.args.session ∷ [] in
    entered ledger c.args.self.now c.self.view_is more c.push_reserved.new.self.items c.make_room.new.notes.items
    (c.push_reserved.ensures.items ∙ ap (λ (es : List Entry). es ++ more) c.make_room.ensures.entries) c.make_room.ensures.notes

pub returns-clause-room : goal.returns-clause-room
returns-clause-room c = sym c.has_room.ensures ∙ c.if-not-has_room.false

pub returns-clause-pinned : goal.returns-clause-pinned
returns-clause-pinned c =
    let i = c.self.inside in
    let ledger : LedgerState = record { base = i.base.value; limit = i.limit; entries = i.entries.items; notes = i.notes.items } in
    let place = entries_told ledger c.args.self.now c.self.view_is i.core.core c.self.invariant.0.made in
    let names = names_told ledger c.args.self.now c.self.view_is i.core.core c.self.invariant.0.made in
    c.in_ok-pinned.ensures.pinned ∙ (λ j. record { session = c.args.session; place = place j; names = names j })

pub invariant_of-self-in_err-pinned : goal.invariant_of-self-in_err-pinned
invariant_of-self-in_err-pinned c =
    let i = c.self.inside in
    let es = c.make_room.new.entries.items in (
      kept_with_room i.base.value i.limit i.entries.items es i.notes.items c.make_room.new.notes.items i.core.core c.pin_core.new.core.core i.reserved _ _ _ _ _
          c.self.invariant.0 c.make_room.ensures.entries c.make_room.ensures.notes c.in_err-pinned.ensures.err c.make_room.ensures.grows.0 c.make_room.ensures.grows.1,
      versions_with_room i.entries.items es i.core.room c.pin_core.new.core.room c.self.invariant.1 c.make_room.ensures.entries c.pin_core.ensures.grows,
    )

pub returns-clause-open : goal.returns-clause-open
returns-clause-open c =
    let i = c.self.inside in
    let ledger : LedgerState = record { base = i.base.value; limit = i.limit; entries = i.entries.items; notes = i.notes.items } in
    opened ledger c.args.session _ c.push_reserved.new.self.items c.make_room.new.notes.items i.core.core c.self.invariant.0.made
    (c.push_reserved.ensures.items ∙ ap (λ (es : List Entry). es ++ Pin c.args.session ∷ []) c.make_room.ensures.entries) c.in_ok-pinned.ensures.pinned

pub invariant_of-self : goal.invariant_of-self
invariant_of-self c =
    let i = c.self.inside in
    let es = c.make_room.new.entries.items in (
      kept_with_room i.base.value i.limit i.entries.items es i.notes.items c.make_room.new.notes.items i.core.core i.core.core i.reserved _ _ _ _ _
          c.self.invariant.0 c.make_room.ensures.entries c.make_room.ensures.notes refl c.make_room.ensures.grows.0 c.make_room.ensures.grows.1,
      versions_with_room i.entries.items es i.core.room i.core.room c.self.invariant.1 c.make_room.ensures.entries (omega arith),
    )
