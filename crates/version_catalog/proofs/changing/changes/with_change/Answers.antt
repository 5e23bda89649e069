use Rattle.std.proofs.Common.{◌≡◌, IfOk, subst}
use Rattle.version_catalog.specs.declared.rules.catalog.Catalog.{Catalog}
use Rattle.version_catalog.proofs.changing.changes.with_change.Goals as goal

pub returns : goal.returns
returns c = subst (λ (next : Catalog). IfOk c.with_record.result (λ after. after ≡ next)) c.in_ok-entry.ensures.same c.with_record.ensures
