-- What is computed of the worked catalogue and of a worked change holds of equal ones.
use Rattle.std.proofs.Common.{◌≡◌, IsTrue, Result, Ok, Err, IfOk, sym, subst}
use Rattle.plan_changes.specs.declared.change.Change.{Change}
use Rattle.plan_changes.specs.Allowed.{names_allow}
use Rattle.version_catalog.specs.declared.rules.catalog.Catalog.{Catalog}
use Rattle.version_catalog.specs.Catalogs.{names_in}
use Rattle.test_changes.specs.Worked.{worked_catalog}

pub allows_as : (catalog : Catalog) (change known : Change) → catalog ≡ worked_catalog → change ≡ known → IsTrue (names_allow (names_in worked_catalog) known) → IsTrue (names_allow (names_in catalog) change)
allows_as catalog change known c e ok =
    subst (λ (k : Catalog). IsTrue (names_allow (names_in k) change)) (sym c)
    (subst (λ (k : Change). IsTrue (names_allow (names_in worked_catalog) k)) (sym e) ok)

pub allows_made : {E : Type 0} (catalog : Catalog) (made : Result Change E) (known : Change) → catalog ≡ worked_catalog → IsTrue (names_allow (names_in worked_catalog) known) → IfOk made (λ change. change ≡ known) → IfOk made (λ change. IsTrue (names_allow (names_in catalog) change))
allows_made catalog (Ok change) known c ok e = allows_as catalog change known c e ok
allows_made catalog (Err error) known c ok e = e
