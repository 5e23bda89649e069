use Rattle.std.proofs.Common.{refl, sym, subst, ◌≡◌, [], ◌∷◌}
use Rattle.event_core.specs.declared.entry.Entry.TheVariants.{Unpin}
use Rattle.store_opening.specs.At.{standing, keeping}
use Rattle.store_ledger.specs.Ledger.{IsOpenPin, history}
use Rattle.store_versions.specs.Rows.{needed_rows, places_at}
use Rattle.store_opening.specs.Standings.{with_entries}
use Rattle.array_store.proofs.Added.{adds_entry}
use Rattle.array_store.proofs.Going.{IsUnmoved, stays}
use Rattle.array_store.proofs.store.store.Store.unpin.Goals as goal

pub returns-clause-adds : goal.returns-clause-adds
returns-clause-adds g c =
    let moment = g.D.Disk.moment in
    adds_entry moment c.self.inside.parts c.args.self.now c.self.view_is (standing moment c.unpin.new.parts) (Unpin c.args.pinned.session) c.self.invariant.at c.is_ledger.ensures refl
    c.unpin.ensures.unpinned

pub invariant_of-self : goal.invariant_of-self
invariant_of-self g c =
    let moment = g.D.Disk.moment in
    let parts = c.self.inside.parts in
    stays moment parts c.unpin.new.parts c.self.invariant c.unpin.ensures.at
    (subst (IsUnmoved (standing moment parts)) (sym c.unpin.ensures.unpinned) (record { opened = refl; disk = refl; doubt = refl }))

pub returns-clause-unpinned : goal.returns-clause-unpinned
returns-clause-unpinned g c =
    let moment = g.D.Disk.moment in
    subst (λ parts. standing moment c.unpin.new.parts ≡ with_entries (Unpin c.args.pinned.session ∷ []) (standing moment parts)) c.self.view_is c.unpin.ensures.unpinned

pub returns-clause-kept : goal.returns-clause-kept
returns-clause-kept g c =
    subst (λ parts. keeping c.unpin.new.parts ≡ record (keeping parts) { rows = needed_rows (places_at (history c.unpin.new.parts.ledger)) parts.table.rows }) c.self.view_is c.unpin.ensures.kept

pub unpin-requires-clause-open : goal.unpin-requires-clause-open
unpin-requires-clause-open g c = subst (λ parts. IsOpenPin parts.ledger c.args.pinned) (sym c.self.view_is) c.requires.open
