use Rattle.std.proofs.Common.{◌≡◌, IsTrue, IfOk, List, map, subst, sym}
use Rattle.std.specs.List.{list_all}
use Rattle.version_catalog.specs.declared.rules.catalog.CatalogArray.{CatalogArray}
use Rattle.plan_changes.specs.Allowed.{has_number}
use Rattle.version_catalog.specs.Records.{with_directory}
use Rattle.version_catalog.proofs.Maps.{new_has}
use Rattle.version_catalog.proofs.changing.arrays.with_first.Goals as goal

pub with_directory-requires : goal.with_directory-requires
with_directory-requires c =
    subst (λ (more : List CatalogArray). IsTrue (list_all (λ array. has_number c.args.name.now array.entry) more)) (sym c.in_ok-more.ensures)
    (new_has c.args.name.now c.args.schema.now c.args.arrays _ c.requires)

pub returns : goal.returns
returns c =
    subst (λ (arrays : List CatalogArray). IfOk c.with_directory.result (λ more. more ≡ map (with_directory c.args.name.now c.args.directory.now) arrays)) c.in_ok-more.ensures
    c.with_directory.ensures
