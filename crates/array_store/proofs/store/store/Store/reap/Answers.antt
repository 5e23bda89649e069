use Rattle.store_opening.specs.At.{standing, keeping}
use Rattle.store_ledger.specs.Ledger.{reap_comes}
use Rattle.array_store.proofs.Added.{adds_reap, if_ok}
use Rattle.std.proofs.Common.{[], ◌∷◌, refl, ◌≡◌, if◌then◌else◌, IfOk, OnErr, subst}
use Rattle.event_core.specs.declared.entry.Entry.TheVariants.{Reap}
use Rattle.store_opening.specs.Standings.{with_entries}
use Rattle.array_store.proofs.Going.{by_choice, stays, unmoved}
use Rattle.array_store.proofs.store.store.Store.reap.Goals as goal

pub returns-clause-adds : goal.returns-clause-adds
returns-clause-adds g c =
    let moment = g.D.Disk.moment in
    if_ok _ _ c.reap.result (adds_reap moment c.self.inside.parts c.args.self.now c.self.view_is (standing moment c.reap.new.parts) c.self.invariant.at c.is_ledger.ensures)
    c.reap.ensures.ok

pub invariant_of-self : goal.invariant_of-self
invariant_of-self g c =
    let moment = g.D.Disk.moment in
    let parts = c.self.inside.parts in
    let s = standing moment parts in
    stays moment parts c.reap.new.parts c.self.invariant c.reap.ensures.at
    (by_choice s (with_entries (Reap ∷ []) s) s s (standing moment c.reap.new.parts) c.reap.result (record { opened = refl; disk = refl; doubt = refl }) (unmoved s) (unmoved s)
    c.reap.ensures.ok c.reap.ensures.err)

pub returns-clause-kept : goal.returns-clause-kept
returns-clause-kept g c =
    subst (λ parts. keeping c.reap.new.parts ≡ keeping parts) c.self.view_is c.reap.ensures.kept

pub returns-clause-err : goal.returns-clause-err
returns-clause-err g c =
    let moment = g.D.Disk.moment in
    subst (λ parts. OnErr c.reap.result (standing moment c.reap.new.parts ≡ standing moment parts)) c.self.view_is c.reap.ensures.err

pub returns-clause-comes : goal.returns-clause-comes
returns-clause-comes g c =
    subst (λ parts. IfOk c.reap.result (λ comes. comes ≡ reap_comes parts.ledger)) c.self.view_is c.reap.ensures.comes

pub returns-clause-ok : goal.returns-clause-ok
returns-clause-ok g c =
    let moment = g.D.Disk.moment in
    subst (λ parts. IfOk c.reap.result (λ comes. standing moment c.reap.new.parts
    ≡ (if comes then with_entries (Reap ∷ []) (standing moment parts) else standing moment parts))) c.self.view_is c.reap.ensures.ok
