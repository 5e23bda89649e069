use Rattle.snapshot_manager.specs.Seats.{session_of}
use Rattle.session_threads.specs.Inner.Desks.{IsReaper}
use Rattle.session_threads.proofs.reaper.keep.Given as goal

abbrev pub invariant-loop : goal.invariant-loop
invariant-loop g l = (goal.iterator-loop g).can_next l.iterator' × (goal.iterator-loop g).is_finite l.iterator' × IsReaper l.shared (session_of l.fn.seat) l.seat
