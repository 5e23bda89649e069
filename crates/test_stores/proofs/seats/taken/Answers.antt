use Rattle.std.proofs.Common.{All, length, refl, subst}
use Rattle.turn_lock.proofs.Gathering.{all_last, all_left, longer_by_one}
use Rattle.test_stores.specs.Visits.{IsFree}
use Rattle.test_stores.proofs.seats.taken.Goals as goal

pub returns-clause-count : goal.returns-clause-count
returns-clause-count g c = longer_by_one c.pop.new.self c.in-Some.seat c.args.seats.now (length c.pop.new.self) c.in-Some.ensures refl

pub returns-clause-left : goal.returns-clause-left
returns-clause-left g c =
    let free = IsFree g.D.Disk.moment c.args.shared.now in
    all_left free c.pop.new.self c.in-Some.seat (subst (All free) c.in-Some.ensures c.requires.free)

pub returns-clause-seat : goal.returns-clause-seat
returns-clause-seat g c =
    let free = IsFree g.D.Disk.moment c.args.shared.now in
    all_last free c.pop.new.self c.in-Some.seat (subst (All free) c.in-Some.ensures c.requires.free)
