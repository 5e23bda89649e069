use Rattle.snapshot_manager.specs.Seats.{IsIdle, IsSeatOf}
use Rattle.test_stores.proofs.Seeing.{one_more_all}
use Rattle.test_stores.proofs.seats.with_seat.Goals as goal

pub returns-clause-seats : goal.returns-clause-seats
returns-clause-seats g c =
    one_more_all (λ seat. IsSeatOf c.args.shared.now seat × IsIdle seat) c.args.seats.items c.push_reserved.new.self.items c.args.seat c.push_reserved.ensures.items c.requires.seats c.requires.seat
