use Rattle.std.proofs.Common.{◌≡◌, ◌<◌, ◌≤◌, ◌∙◌, length, map, get_or, ap, arith}
use Rattle.std.proofs.lemmas.List.{take_all}
use Rattle.version_catalog.specs.declared.rules.catalog.CatalogArray.{CatalogArray}
use Rattle.store_opening.proofs.PairLaws.{one_more}
use Rattle.store_opening.proofs.bases.base.names_of.Goals as goal

pub loop-array-preserved : goal.loop-array-preserved
loop-array-preserved c =
    let arrays = c.args.catalog.now.arrays in
    let i = c.loop-array.array-index in
    let array = c.array-item.result in
    let low : i < length arrays = omega (arith, c.loop-array-test.true, ap length c.as_slice-array-items.ensures) in
    let is : array ≡ get_or arrays i array = rw c.as_slice-array-items.ensures at c.array-item.is in
    one_more (λ (a : CatalogArray). a.entry) arrays i array c.in_ok-copy.field-0 c.loop-array.arrays c.push.new.self low is c.loop-array.invariant
    c.in_ok-push.ensures.ok c.in_ok-copy.ensures

pub returns : goal.returns
returns c =
    let arrays = c.args.catalog.now.arrays in
    let past : length arrays ≤ c.loop-array.array-index = omega (arith, c.loop-array-test.false, ap length c.as_slice-array-items.ensures) in
    let all = c.loop-array.invariant ∙ ap (map (λ (a : CatalogArray). a.entry)) (take_all c.loop-array.array-index arrays past) in
    λ i. record { arrays = all i }
