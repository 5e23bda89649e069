use Rattle.std.proofs.Common.{arith}
use Rattle.result_print.specs.Listings.{array_line}
use Rattle.result_print.proofs.Numbered.{numbered_after}
use Rattle.result_print.proofs.listings.write_arrays.Goals as goal

pub loop-at-preserved : goal.loop-at-preserved
loop-at-preserved c =
    numbered_after array_line 0 c.args.arrays.now c.loop-at.at c.loop-at.at c.index-arrays-at.result c.index-arrays-at.result c.args.out.now c.loop-at.out c.write_array.new.out
    c.loop-at-test.true (omega arith) c.index-arrays-at.is c.loop-at.invariant c.in_ok-write_array.ensures
