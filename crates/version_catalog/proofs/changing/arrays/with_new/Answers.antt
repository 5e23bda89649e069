use Rattle.std.proofs.Common.{◌≤◌, List, length, ap, subst, ◌∙◌}
use Rattle.std.specs.List.{prefix_len}
use Rattle.plan_changes.specs.Stored.{is_before}
use Rattle.version_catalog.specs.declared.rules.catalog.CatalogArray.{CatalogArray}
use Rattle.version_catalog.proofs.Maps.{new_made}
use Rattle.version_catalog.proofs.changing.arrays.with_new.Goals as goal

pub insert-requires : goal.insert-requires
insert-requires c = subst (λ (arrays : List CatalogArray). c.place_of-place.result ≤ length arrays) c.as_slice.ensures c.place_of-place.ensures.within

pub returns : goal.returns
returns c =
    new_made c.args.name.now c.in_ok-copy.field-0 c.args.schema.now c.in_ok-copy-2.field-0 c.another.result c.another-2.result c.args.arrays c.insert.new.self c.place_of-place.result
    c.in_ok-insert.ensures.ok
    (c.place_of-place.ensures.place ∙ ap (λ (arrays : List CatalogArray). prefix_len (λ array. is_before array.entry.name c.args.name.now) arrays) c.as_slice.ensures)
    c.in_ok-copy.ensures c.in_ok-copy-2.ensures c.another.ensures c.another-2.ensures
