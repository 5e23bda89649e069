use Rattle.std.proofs.Common.{◌∙◌}
use Rattle.backup_format.specs.PiecePlaces.{array_in}
use Rattle.backup_restoring.specs.Restores.{array_pages, array_length}
use Rattle.backup_restoring.proofs.Sums.{sum_taken, sum_whole}
use Rattle.backup_restoring.proofs.counting.arrays_extent.Goals as goal

pub loop-array-preserved : goal.loop-array-preserved
loop-array-preserved c =
    let whole = c.args.whole.now in
    let xs = c.args.arrays.now in
    let i = c.loop-array.array-index in
    let x = c.array-item.result in
    let low = c.loop-array-test.true in
    record {
      pages = sum_taken array_pages (array_in whole) xs i x _ _ _ low c.array-item.is c.loop-array.invariant.pages c.in_ok-one.ensures.pages c.in_ok-extent.ensures.0;
      bytes = sum_taken array_length (array_in whole) xs i x _ _ _ low c.array-item.is c.loop-array.invariant.bytes c.in_ok-one.ensures.bytes c.in_ok-extent.ensures.1;
    }

pub returns : goal.returns
returns c =
    let whole = c.args.whole.now in
    record {
      pages = c.loop-array.invariant.pages ∙ sum_whole array_pages (array_in whole) c.args.arrays.now c.loop-array.array-index c.loop-array-test.false;
      bytes = c.loop-array.invariant.bytes ∙ sum_whole array_length (array_in whole) c.args.arrays.now c.loop-array.array-index c.loop-array-test.false;
    }
