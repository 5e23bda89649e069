use Rattle.std.proofs.Common.{[], ◌∷◌, refl, arith}
use Rattle.store_versions.specs.Entry.TheVariants.{Reap}
use Rattle.store_ledger.specs.Ledger.{LedgerState}
use Rattle.store_ledger.proofs.Opened.{reap_keeps}
use Rattle.store_ledger.proofs.Versions.{reap_room}
use Rattle.store_ledger.proofs.Parts.{entered, kept_with_room, versions_with_room}
use Rattle.store_ledger.proofs.ledger.Ledger.reap_now.Goals as goal

pub invariant_of-self-2 : goal.invariant_of-self-2
invariant_of-self-2 c =
    let i = c.self.inside in
    let ledger : LedgerState = record { base = i.base.value; limit = i.limit; entries = i.entries.items; notes = i.notes.items } in (
      reap_keeps ledger c.args.self.now i.core.core c.append_reap.new.core.core i.reserved _ _ _ c.append_reap.new.entries.items _
          c.self.view_is c.self.invariant.0 c.requires.room c.requires.cause c.in_ok-append_reap.ensures.entries c.in_ok-append_reap.ensures.core c.in_ok-append_reap.ensures.room,
      reap_room i.entries.items c.append_reap.new.entries.items i.core.room _ c.self.invariant.1 c.append_reap.ensures.versions c.in_ok-append_reap.ensures.entries,
    )

pub returns-clause-ok : goal.returns-clause-ok
returns-clause-ok c =
    let i = c.self.inside in
    let ledger : LedgerState = record { base = i.base.value; limit = i.limit; entries = i.entries.items; notes = i.notes.items } in
    entered ledger c.args.self.now c.self.view_is (Reap ∷ []) c.append_reap.new.entries.items i.notes.items c.in_ok-append_reap.ensures.entries refl

pub invariant_of-self : goal.invariant_of-self
invariant_of-self c =
    let i = c.self.inside in
    let made = c.append_reap.new in
    let err = c.in_err-append_reap.ensures.err in (
      kept_with_room i.base.value i.limit i.entries.items made.entries.items i.notes.items i.notes.items i.core.core made.core.core i.reserved _ _ _ _ _
          c.self.invariant.0 err.1 refl err.0 c.append_reap.ensures.grows (omega arith),
      versions_with_room i.entries.items made.entries.items i.core.room made.core.room c.self.invariant.1 err.1 (omega (arith, c.append_reap.ensures.versions)),
    )
