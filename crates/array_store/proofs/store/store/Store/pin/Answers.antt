use Rattle.std.proofs.Common.{refl, [], ◌∷◌, ◌≡◌, length, subst, IfErr, IfOk, IsTrue, OnErr, OnOk}
use Rattle.event_core.specs.declared.entry.Entry.TheVariants.{Pin}
use Rattle.store_opening.specs.At.{standing, keeping}
use Rattle.event_core.specs.History.{names_at}
use Rattle.store_ledger.specs.Ledger.{IsRefused, has_room, history}
use Rattle.array_store.proofs.Added.{adds_entry, on_ok}
use Rattle.store_opening.specs.Standings.{with_entries}
use Rattle.array_store.proofs.Going.{by_either, stays, unmoved}
use Rattle.array_store.proofs.store.store.Store.pin.Goals as goal

pub returns-clause-adds : goal.returns-clause-adds
returns-clause-adds g c =
    let moment = g.D.Disk.moment in
    let parts = c.self.inside.parts in
    on_ok _ _ c.pin.result (adds_entry moment parts c.args.self.now c.self.view_is (standing moment c.pin.new.parts) (Pin c.args.session) c.self.invariant.at c.is_ledger.ensures refl)
    c.pin.ensures.ok

pub invariant_of-self : goal.invariant_of-self
invariant_of-self g c =
    let moment = g.D.Disk.moment in
    let parts = c.self.inside.parts in
    let s = standing moment parts in
    stays moment parts c.pin.new.parts c.self.invariant c.pin.ensures.at
    (by_either s (with_entries (Pin c.args.session ∷ []) s) s (standing moment c.pin.new.parts) c.pin.result (record { opened = refl; disk = refl; doubt = refl }) (unmoved s) c.pin.ensures.ok c.pin.ensures.err)

pub returns-clause-kept : goal.returns-clause-kept
returns-clause-kept g c =
    subst (λ parts. keeping c.pin.new.parts ≡ keeping parts) c.self.view_is c.pin.ensures.kept

pub returns-clause-ok : goal.returns-clause-ok
returns-clause-ok g c =
    let moment = g.D.Disk.moment in
    subst (λ parts. OnOk c.pin.result (standing moment c.pin.new.parts ≡ with_entries (Pin c.args.session ∷ []) (standing moment parts))) c.self.view_is c.pin.ensures.ok

pub returns-clause-err : goal.returns-clause-err
returns-clause-err g c =
    let moment = g.D.Disk.moment in
    subst (λ parts. OnErr c.pin.result (standing moment c.pin.new.parts ≡ standing moment parts)) c.self.view_is c.pin.ensures.err

pub returns-clause-pinned : goal.returns-clause-pinned
returns-clause-pinned g c =
    subst (λ parts. IfOk c.pin.result (λ pinned. pinned ≡ record {
      session = c.args.session;
      place = length parts.ledger.entries;
      names = names_at parts.ledger.base (history parts.ledger);
    })) c.self.view_is c.pin.ensures.pinned

pub returns-clause-room : goal.returns-clause-room
returns-clause-room g c =
    subst (λ parts. OnOk c.pin.result (IsTrue (has_room parts.ledger 4))) c.self.view_is c.pin.ensures.room

pub returns-clause-cause : goal.returns-clause-cause
returns-clause-cause g c =
    subst (λ parts. IfErr c.pin.result (IsRefused parts.ledger)) c.self.view_is c.pin.ensures.cause
