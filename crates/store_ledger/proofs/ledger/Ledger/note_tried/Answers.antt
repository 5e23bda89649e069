use Rattle.std.proofs.Common.{arith}
use Rattle.store_ledger.specs.Ledger.{LedgerState}
use Rattle.store_ledger.proofs.Noted.{tried_fits, tried_gives, tried_is, tried_keeps}
use Rattle.store_ledger.proofs.Told.{is_ledger, reap_may, two_fit}
use Rattle.store_ledger.proofs.ledger.Ledger.note_tried.Goals as goal

pub push_reserved-requires : goal.push_reserved-requires
push_reserved-requires c =
    let i = c.self.inside in
    let ledger : LedgerState = record { base = i.base.value; limit = i.limit; entries = i.entries.items; notes = i.notes.items } in
    omega (arith, tried_fits ledger c.args.self.now c.args.session i.core.core i.reserved _ _ _ c.self.view_is c.self.invariant.0 c.requires.pinned c.requires.first, i.notes.ok.0)

pub overflow_sub-self : goal.overflow_sub-self
overflow_sub-self c =
    let i = c.self.inside in
    let ledger : LedgerState = record { base = i.base.value; limit = i.limit; entries = i.entries.items; notes = i.notes.items } in
    tried_gives ledger c.args.self.now c.args.session i.core.core i.reserved _ _ _ c.self.view_is c.self.invariant.0 c.requires.pinned c.requires.first

pub invariant_of-self : goal.invariant_of-self
invariant_of-self c =
    let i = c.self.inside in
    let ledger : LedgerState = record { base = i.base.value; limit = i.limit; entries = i.entries.items; notes = i.notes.items } in (
      tried_keeps ledger c.args.self.now c.args.session i.core.core i.reserved _ _ _ c.self.view_is c.self.invariant.0 c.requires.pinned c.of.result.value c.len-after.result _ _ c.push_reserved.new.self.items c.requires.first (omega (arith, c.len-after.ensures, i.entries.ok.0)) c.push_reserved.ensures.items c.push_reserved.ensures.capacity
          (omega (arith, tried_gives ledger c.args.self.now c.args.session i.core.core i.reserved _ _ _ c.self.view_is c.self.invariant.0 c.requires.pinned c.requires.first)),
      c.self.invariant.1,
    )

pub returns-clause-room : goal.returns-clause-room
returns-clause-room c =
    let i = c.self.inside in
    let ledger : LedgerState = record { base = i.base.value; limit = i.limit; entries = i.entries.items; notes = i.notes.items } in
    two_fit ledger c.args.self.now c.args.session c.of.result.value c.len-after.result c.push_reserved.new.self.items c.self.view_is
    (is_ledger ledger c.args.self.now i.core.core i.reserved _ _ _ c.self.view_is c.self.invariant.0) c.requires.pinned c.requires.first
    (omega (arith, c.len-after.ensures, i.entries.ok.0)) c.push_reserved.ensures.items

pub returns-clause-noted : goal.returns-clause-noted
returns-clause-noted c =
    let i = c.self.inside in
    let ledger : LedgerState = record { base = i.base.value; limit = i.limit; entries = i.entries.items; notes = i.notes.items } in
    tried_is ledger c.args.self.now c.args.session c.len-after.result c.of.result.value c.args.change.now c.push_reserved.new.self.items c.self.view_is
    (omega (arith, c.len-after.ensures, i.entries.ok.0)) c.of.ensures c.push_reserved.ensures.items

pub returns-clause-cause : goal.returns-clause-cause
returns-clause-cause c =
    let i = c.self.inside in
    let ledger : LedgerState = record { base = i.base.value; limit = i.limit; entries = i.entries.items; notes = i.notes.items } in
    reap_may ledger c.args.self.now c.args.session c.of.result.value c.len-after.result c.push_reserved.new.self.items c.self.view_is
    (is_ledger ledger c.args.self.now i.core.core i.reserved _ _ _ c.self.view_is c.self.invariant.0) c.push_reserved.ensures.items
