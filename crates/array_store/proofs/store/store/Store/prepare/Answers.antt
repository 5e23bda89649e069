use Rattle.std.proofs.Common.{◌≡◌, Bool, false, IsTrue, sym, subst, [], ◌∷◌, refl}
use Rattle.event_core.specs.Allowed.{is_pinned}
use Rattle.event_core.specs.Bases.{sequence_at}
use Rattle.store_ledger.specs.Ledger.{history, is_noted, is_tried}
use Rattle.store_opening.specs.At.{keeping, standing}
use Rattle.store_opening.specs.Standings.{base_of, with_entries}
use Rattle.prepared_commits.specs.Needs.{needs}
use Rattle.prepared_commits.specs.Prepared.{IsAsked}
use Rattle.store_sealing.specs.Left.{FitsIn, HasNext, IsLeft, reaped_if, tried_now}
use Rattle.array_store.specs.Growth.{AddsEvents, tried_events}
use Rattle.array_store.proofs.Added.{is_counted}
use Rattle.array_store.proofs.Tried.{left_adds}
use Rattle.event_core.specs.declared.entry.Entry.TheVariants.{Reap}
use Rattle.array_store.proofs.Going.{by_bool, stays}
use Rattle.array_store.proofs.store.store.Store.prepare.Goals as goal

pub prepare-requires : goal.prepare-requires
prepare-requires g c =
    let moment = g.D.Disk.moment in
    let same = sym c.self.view_is in
    record {
      at = c.self.invariant.at;
      pinned = subst (λ parts. IsTrue (is_pinned c.args.session (history parts.ledger))) same c.requires.pinned;
      tried = subst (λ parts. is_noted is_tried parts.ledger c.args.session ≡ false) same c.requires.tried;
      asked = subst (λ parts. IsAsked moment (standing moment parts) c.args.change c.args.changed) same c.requires.asked;
    }

pub returns : goal.returns
returns g c =
    let moment = g.D.Disk.moment in
    let parts = c.self.inside.parts in
    let same = c.self.view_is in
    let s = standing moment parts in
    let new = c.prepare.new.parts in
    let e = c.prepare.ensures in
    let change = c.args.change in
    let changed = c.args.changed in
    let session = c.args.session in
    record {
      left = subst (λ old. IsLeft (needs (standing moment old) (keeping old) change changed) (tried_now session change (standing moment old)) c.prepare.result (standing moment new)) same e.left;
      adds = subst (λ old. (comes : Bool) × (standing moment new ≡ reaped_if comes (tried_now session change (standing moment old)))
          × AddsEvents (tried_events comes old.ledger session change) (standing moment old) (standing moment new)) same
          (left_adds session change s (is_counted moment parts c.self.invariant.at c.is_ledger.ensures) (needs s (keeping parts) change changed) c.prepare.result (standing moment new) e.left);
      ok = e.ok;
      kept = subst (λ old. keeping new ≡ keeping old) same e.kept;
      of = e.of;
      fits = subst (λ old. FitsIn (needs (standing moment old) (keeping old) change changed) c.prepare.result new.ledger) same e.fits;
      end = subst (λ old. HasNext (sequence_at (base_of (standing moment old)) (history old.ledger)) c.prepare.result) same e.end;
    }

pub invariant_of-self : goal.invariant_of-self
invariant_of-self g c =
    let moment = g.D.Disk.moment in
    let parts = c.self.inside.parts in
    let s = standing moment parts in
    let new = c.prepare.new.parts in
    let change = c.args.change in
    let session = c.args.session in
    let left = left_adds session change s (is_counted moment parts c.self.invariant.at c.is_ledger.ensures) (needs s (keeping parts) change c.args.changed) c.prepare.result
    (standing moment new) c.prepare.ensures.left in
    stays moment parts new c.self.invariant c.prepare.ensures.at
    (by_bool s (with_entries (Reap ∷ []) (tried_now session change s)) (tried_now session change s) (standing moment new) left.0
    (record { opened = refl; disk = refl; doubt = refl }) (record { opened = refl; disk = refl; doubt = refl }) left.1)
