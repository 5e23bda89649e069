use Rattle.std.proofs.Common.{List, ◌∙◌, ap}
use Rattle.std.specs.List.{list_all}
use Rattle.plan_changes.specs.Allowed.{has_number}
use Rattle.version_catalog.specs.declared.rules.catalog.CatalogArray.{CatalogArray}
use Rattle.version_catalog.proofs.Maps.{all_map}
use Rattle.version_catalog.proofs.changing.rules.has_number.Goals as goal

pub returns : goal.returns
returns c =
    c.all_numbers.ensures ∙ ap (λ (arrays : List CatalogArray). list_all (λ array. has_number c.args.name.now array.entry) arrays) c.as_slice.ensures
    ∙ all_map c.args.name.now c.args.arrays.now
