use Rattle.afl_types.specs.Arrays.{AreValid}
use Rattle.test_language.proofs.stored.push_arrays_in.Given as goal

abbrev pub invariant-loop-part : goal.invariant-loop-part
invariant-loop-part l = AreValid l.arrays
