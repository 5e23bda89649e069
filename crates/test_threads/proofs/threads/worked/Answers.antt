use Rattle.std.proofs.Common.{arith, drop, length, subst, sym, take_at, All}
use Rattle.std.proofs.lemmas.List.Sorted.{All-permutation}
use Rattle.snapshot_manager.specs.Seats.{AreIdleSeats}
use Rattle.test_stores.specs.Visits.{IsFree}
use Rattle.test_threads.proofs.threads.worked.Goals as goal

pub work_all-requires-clause-free : goal.work_all-requires-clause-free
work_all-requires-clause-free g c κs within =
    let free = IsFree g.D.Disk.moment c.args.shared.now in
    subst (All free) (sym c.as_mut_slice.ensures.value) (All-permutation free _ _ c.reverse.ensures.permutation c.requires.free)

pub returns-clause-seats : goal.returns-clause-seats
returns-clause-seats g c =
    let left = c.work_all.new.seats in
    let were = c.reverse.new.self in
    subst (AreIdleSeats c.args.shared.now) (sym (take_at left (drop (length left) were.items) were.len (omega arith))) c.work_all.ensures.seats
