use Rattle.std.proofs.Common.{sym, subst}
use Rattle.afl_types.specs.Arrays.{AreValid}
use Rattle.test_language.proofs.replies.push_list.Goals as goal

pub push_arrays_in-added-requires : goal.push_arrays_in-added-requires
push_arrays_in-added-requires c = subst AreValid (sym c.new.ensures) tt
