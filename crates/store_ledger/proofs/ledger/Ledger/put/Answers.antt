use Rattle.std.proofs.Common.{◌≡◌, ◌∙◌, [], ◌∷◌, ◌++◌, refl, ap, arith}
use Rattle.store_versions.specs.Change.{Change}
use Rattle.store_versions.specs.Used.{Used}
use Rattle.store_versions.specs.Entry.TheVariants.{Commit}
use Rattle.store_versions.specs.Ready.{ReadyFor}
use Rattle.store_ledger.specs.Ledger.{LedgerState}
use Rattle.store_ledger.proofs.Opened.{put_fits, put_keeps}
use Rattle.store_ledger.proofs.Versions.{put_room, version_fits}
use Rattle.store_ledger.proofs.Parts.{entered}
use Rattle.store_ledger.proofs.ledger.Ledger.put.Goals as goal

pub put-requires-clause-change : goal.put-requires-clause-change
put-requires-clause-change c = c.commit.invariant.0

pub put-requires-clause-room : goal.put-requires-clause-room
put-requires-clause-room c =
    let i = c.self.inside in
    let ledger : LedgerState = record { base = i.base.value; limit = i.limit; entries = i.entries.items; notes = i.notes.items } in
    version_fits ledger c.args.self.now c.args.session c.args.commit.change c.args.commit.used i.core.core i.reserved _ _ _ _ c.self.view_is c.self.invariant.0 c.requires.allowed c.self.invariant.1

pub push_reserved-requires : goal.push_reserved-requires
push_reserved-requires c =
    let i = c.self.inside in
    let ledger : LedgerState = record { base = i.base.value; limit = i.limit; entries = i.entries.items; notes = i.notes.items } in
    omega (arith, put_fits ledger c.args.self.now c.args.session c.args.commit.change c.args.commit.used i.core.core i.reserved _ _ _ c.self.view_is c.self.invariant.0 c.requires.allowed, i.entries.ok.0)

pub invariant_of-self : goal.invariant_of-self
invariant_of-self c =
    let i = c.self.inside in
    let r = c.commit.inside in
    let ledger : LedgerState = record { base = i.base.value; limit = i.limit; entries = i.entries.items; notes = i.notes.items } in
    let one : r.change ≡ c.args.commit.change = c.commit.invariant.0 ∙ ap (λ (f : ReadyFor). f.change) c.commit.view_is in
    let two : r.used ≡ c.args.commit.used = c.commit.invariant.1 ∙ ap (λ (f : ReadyFor). f.used) c.commit.view_is in (
      put_keeps ledger c.args.self.now c.args.session r.ready c.args.commit r.change r.used i.core.core c.put.new.self.core i.reserved _ _ _ _ c.push_reserved.new.self.items
          c.self.view_is c.commit.view_is c.commit.invariant.0 c.commit.invariant.1 c.self.invariant.0 c.requires.allowed c.requires.first c.requires.room
          c.push_reserved.ensures.items c.put.ensures.core c.push_reserved.ensures.capacity,
      put_room ledger c.args.self.now c.args.session c.args.commit.change c.args.commit.used i.core.core i.reserved _ _ _ c.push_reserved.new.self.items _ _
          c.self.view_is c.self.invariant.0 c.requires.allowed c.requires.first c.requires.room
          (c.push_reserved.ensures.items ∙ ap (λ (ch : Change). i.entries.items ++ Commit c.args.session ch r.used ∷ []) one
          ∙ ap (λ (u : Used). i.entries.items ++ Commit c.args.session c.args.commit.change u ∷ []) two)
          c.self.invariant.1 c.put.ensures.room,
    )

pub returns : goal.returns
returns c =
    let i = c.self.inside in
    let r = c.commit.inside in
    let session = c.args.session in
    let commit = c.args.commit in
    let ledger : LedgerState = record { base = i.base.value; limit = i.limit; entries = i.entries.items; notes = i.notes.items } in
    let one : r.change ≡ commit.change = c.commit.invariant.0 ∙ ap (λ (f : ReadyFor). f.change) c.commit.view_is in
    let two : r.used ≡ commit.used = c.commit.invariant.1 ∙ ap (λ (f : ReadyFor). f.used) c.commit.view_is in
    entered ledger c.args.self.now c.self.view_is (Commit session commit.change commit.used ∷ []) c.push_reserved.new.self.items i.notes.items
    (c.push_reserved.ensures.items ∙ ap (λ (ch : Change). i.entries.items ++ Commit session ch r.used ∷ []) one
    ∙ ap (λ (u : Used). i.entries.items ++ Commit session commit.change u ∷ []) two) refl
