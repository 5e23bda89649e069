use Rattle.std.proofs.Common.{◌≡◌, length, MatchResult, refl, sym, subst}
use Rattle.store_sealing.specs.Steps.{sealed}
use Rattle.store_opening.specs.At.{standing}
use Rattle.prepared_commits.specs.Prepared.{IsPreparedFor}
use Rattle.store_sealing.proofs.SealingSealed.{HasCome}
use Rattle.array_store.specs.Growth.{AddsFault}
use Rattle.array_store.specs.Sealing.{AddsCommit}
use Rattle.array_store.proofs.Added.{is_counted}
use Rattle.array_store.proofs.Sealed.{seal_adds}
use Rattle.array_store.proofs.Stands.{seal_stands, same_opened}
use Rattle.array_store.proofs.Going.{moves, no_doubt, seal_doubt}
use Rattle.array_store.proofs.store.store.Store.seal.Goals as goal

pub seal-requires : goal.seal-requires
seal-requires g c = record {
  at = c.self.invariant.at;
  prepared = (c.requires.0, subst (λ parts. IsPreparedFor g.D.Disk.moment parts c.requires.0 c.args.prepared) (sym c.self.view_is) c.requires.1);
}

pub returns : goal.returns
returns g c =
    let moment = g.D.Disk.moment in
    let parts = c.self.inside.parts in
    let new = c.seal.new.parts in
    let p = c.args.prepared in
    let e = c.seal.ensures in
    let come : HasCome moment parts p c.seal.result new = record {
      parts = e.at;
      ok = e.ok;
      err = e.err;
      kept = e.kept;
      noted = e.noted;
      during = e.during;
      durable = e.durable;
      cause = e.cause;
    } in
    let is = subst (λ old. HasCome moment old p c.seal.result new) c.self.view_is come in
    let adds = subst (λ old. MatchResult c.seal.result (λ _. AddsCommit moment p (standing moment old) (standing moment new))
    (λ _. AddsFault moment p.session (standing moment old) (standing moment new))) c.self.view_is
    (seal_adds moment (standing moment parts) (standing moment new) p (is_counted moment parts c.self.invariant.at c.is_ledger.ensures) c.seal.result e.ok e.err e.noted) in
    record {
      ok = is.ok;
      err = is.err;
      kept = is.kept;
      noted = is.noted;
      adds = adds;
      during = is.during;
      stands = seal_stands moment c.args.self.now new p c.seal.result e.at is.ok is.err;
      durable = is.durable;
      cause = is.cause;
    }

pub invariant_of-self : goal.invariant_of-self
invariant_of-self g c =
    let moment = g.D.Disk.moment in
    let parts = c.self.inside.parts in
    moves moment parts c.seal.new.parts c.self.invariant c.seal.ensures.at (same_opened moment parts c.seal.new.parts c.args.prepared c.seal.result c.seal.ensures.ok c.seal.ensures.err)
    c.seal.ensures.same
    (seal_doubt (moment parts.file.disk) (moment c.seal.new.parts.file.disk) c.seal.new.parts.doubt parts.doubt c.seal.result (no_doubt c.seal.result (λ place. place ≡ length parts.ledger.entries)
    (standing moment c.seal.new.parts) (sealed moment (standing moment parts) c.args.prepared c.seal.new.parts.ledger c.seal.new.parts.file.disk) c.seal.ensures.ok refl) c.seal.ensures.cause)
