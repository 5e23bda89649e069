use Rattle.afl_types.specs.Arrays.{AreValid}
use Rattle.test_language.proofs.stored.push_arrays.Given as goal

abbrev pub invariant-loop-number : goal.invariant-loop-number
invariant-loop-number l = AreValid l.arrays
