use Rattle.std.proofs.Common.{Bool, sym, arith}
use Rattle.std.specs.List.{prefix_len}
use Rattle.plan_changes.specs.Stored.{is_before}
use Rattle.version_catalog.specs.declared.rules.catalog.CatalogArray.{CatalogArray}
use Rattle.version_catalog.proofs.Maps.{place_next, place_here}
use Rattle.version_catalog.proofs.changing.arrays.place_of.Goals as goal

pub loop-place-preserved : goal.loop-place-preserved
loop-place-preserved c =
    let arrays = c.args.arrays.now in
    let test : CatalogArray → Bool = λ array. is_before array.entry.name c.args.name.now in
    record {
      place = place_next test arrays c.loop-place.place (prefix_len test arrays) c.index-arrays-place.result c.loop-place-test.true (sym c.if-is_before.ensures) c.loop-place.invariant.place;
      within = omega (arith, c.loop-place-test.true);
    }

pub returns-else-is_before-clause-place : goal.returns-else-is_before-clause-place
returns-else-is_before-clause-place c =
    let arrays = c.args.arrays.now in
    let test : CatalogArray → Bool = λ array. is_before array.entry.name c.args.name.now in
    place_here test arrays c.loop-place.place (prefix_len test arrays) c.index-arrays-place.result c.loop-place-test.true (sym c.if-is_before.ensures) c.loop-place.invariant.place
