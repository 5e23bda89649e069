use Rattle.std.proofs.Common.{◌∙◌, sym}
use Rattle.test_stores.proofs.Seeing.{new_are_free}
use Rattle.test_threads.proofs.threads.stored_by_two.Goals as goal

pub stored_by-requires-clause-count : goal.stored_by-requires-clause-count
stored_by-requires-clause-count g c κs within = c.in-Ok.ensures.count.1 ∙ sym c.in-Ok.ensures.count.0

pub stored_by-requires-clause-free : goal.stored_by-requires-clause-free
stored_by-requires-clause-free g c κs within = new_are_free g.D.Disk.moment c.in-Ok.shared c.in-Ok.seats c.in-Ok.ensures.seats
