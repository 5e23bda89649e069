use Rattle.std.proofs.Common.{IfSome, subst}
use Rattle.afl_outside.specs.Disk.{DiskGoesOn}
use Rattle.store_ledger.specs.Ledger.{IsLedger}
use Rattle.store_opening.specs.At.{AreParts, standing}
use Rattle.array_store.specs.Growth.{IsCounted}
use Rattle.array_store.specs.Kept.{HasFailed}
use Rattle.array_store.proofs.Added.{is_counted}
use Rattle.array_store.proofs.store.store.Store.is_at.Goals as goal

pub returns : goal.returns
returns g c =
    let moment = g.D.Disk.moment in
    let parts = c.self.inside.parts in record {
      at = subst (AreParts moment) c.self.view_is c.self.invariant.at;
      ledger = subst (λ p. IsLedger p.ledger) c.self.view_is c.is_ledger.ensures;
      counted = subst (λ p. IsCounted (standing moment p)) c.self.view_is (is_counted moment parts c.self.invariant.at c.is_ledger.ensures);
      goes_on = subst (λ p. DiskGoesOn (moment p.opened.value.disk).state (moment p.file.disk).state) c.self.view_is c.self.invariant.goes_on;
      doubt = subst (λ p. IfSome p.doubt (λ _. HasFailed (moment p.opened.value.disk).state (moment p.file.disk).state)) c.self.view_is c.self.invariant.doubt;
    }
