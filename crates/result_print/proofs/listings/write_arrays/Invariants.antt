use Rattle.std.proofs.Common.{◌≡◌, ◌++◌, take}
use Rattle.result_print.specs.Listings.{array_line, numbered}
use Rattle.result_print.proofs.listings.write_arrays.Given as goal

abbrev pub invariant-loop-at : goal.invariant-loop-at
invariant-loop-at l = l.out ≡ l.initial.out ++ numbered array_line 0 (take l.at l.arrays)
