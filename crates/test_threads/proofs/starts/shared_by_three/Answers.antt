use Rattle.test_quiet.specs.Silent.{silent_moment}
use Rattle.test_stores.proofs.Seeing.{new_are_free}
use Rattle.test_threads.proofs.starts.shared_by_three.Goals as goal

pub seated-requires-clause-free : goal.seated-requires-clause-free
seated-requires-clause-free c = new_are_free silent_moment c.in-Ok-new.shared c.in-Ok-new.seats c.in-Ok-new.ensures.seats
