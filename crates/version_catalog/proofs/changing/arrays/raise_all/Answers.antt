use Rattle.std.proofs.Common.{List, get_or, ap, ◌∙◌}
use Rattle.plan_changes.specs.Allowed.{has_number}
use Rattle.plan_changes.proofs.Maps.{still_there, passes_at, map_step}
use Rattle.version_catalog.specs.declared.rules.catalog.CatalogArray.{CatalogArray}
use Rattle.version_catalog.specs.Records.{with_directory}
use Rattle.version_catalog.proofs.changing.arrays.raise_all.Goals as goal

pub loop-array-preserved : goal.loop-array-preserved
loop-array-preserved c = map_step (with_directory c.args.name.now c.args.directory.now) _ c.args.arrays.now _ c.array-item.result _ c.loop-array-test.true c.loop-array.invariant c.in_ok-raise.ensures

pub raise-requires : goal.raise-requires
raise-requires c =
    let name = c.args.name.now in
    let old = c.args.arrays.now in
    let index = c.loop-array.array-index in
    let item = c.array-item.result in
    ap (λ (array : CatalogArray). has_number name array.entry) (ap (λ (arrays : List CatalogArray). get_or arrays index item) c.loop-array.invariant ∙ still_there (with_directory name c.args.directory.now) old index item c.loop-array-test.true)
    ∙ passes_at (λ (array : CatalogArray). has_number name array.entry) old index item c.loop-array-test.true c.requires
