use Rattle.std.proofs.Common.{◌≡◌, ◌<◌, ◌≤◌, length, get_or, ap, arith}
use Rattle.store_opening.specs.Bases.{array_pages, versions_pages}
use Rattle.store_opening.proofs.PairLaws.{lists_over, lists_end}
use Rattle.store_opening.proofs.bases.base.versions_pages.Goals as goal

pub loop-array-preserved : goal.loop-array-preserved
loop-array-preserved c =
    let arrays = c.args.found.now.catalog.arrays in
    let i = c.loop-array.array-index in
    let array = c.array-item.result in
    let low : i < length arrays = omega (arith, c.loop-array-test.true, ap length c.as_slice-array-items.ensures) in
    let is : array ≡ get_or arrays i array = rw c.as_slice-array-items.ensures at c.array-item.is in
    lists_over array_pages arrays i array c.loop-array.left.now c.in-Ok.rest.now c.loop-array.versions c.push_row.new.versions (versions_pages c.args.found.now) low is c.in-Ok.ensures c.loop-array.invariant

pub returns : goal.returns
returns c =
    let arrays = c.args.found.now.catalog.arrays in
    let past : length arrays ≤ c.loop-array.array-index = omega (arith, c.loop-array-test.false, ap length c.as_slice-array-items.ensures) in
    lists_end array_pages arrays c.loop-array.array-index c.loop-array.left.now c.loop-array.versions (versions_pages c.args.found.now) past c.loop-array.invariant
