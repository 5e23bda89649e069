use Rattle.std.proofs.Common.{◌<◌, ◌≤◌, ap, arith, length, refl, subst, sym}
use Rattle.turn_lock.proofs.Gathering.{longer_by_one}
use Rattle.snapshot_manager.specs.Seats.{AreNewSeats}
use Rattle.snapshot_manager.proofs.Seating.{first_of_rest, less_one, seated_more, some_left}
use Rattle.snapshot_manager.proofs.shared.Shared.seated.Goals as goal

pub loop-preserved : goal.loop-preserved
loop-preserved g c =
    let i = c.loop.invariant in
    let first = c.take_first-turn_seat.ensures in
    let pushed = c.push_reserved.ensures in
    let seat = c.take_first-turn_seat.result in
    let at = first_of_rest c.args.turn_seats c.loop.turn_seats c.loop.counter seat i.seats first.item in record {
      seats = less_one c.args.turn_seats c.loop.turn_seats c.take_first-turn_seat.new.seats c.loop.counter i.seats first.rest;
      count = longer_by_one c.loop.room.items (record { turn_seat = seat; entries = 0; last = 0; reads = 0 }) c.push_reserved.new.self.items c.loop.counter pushed.items i.count;
      room = subst (λ n. length c.args.turn_seats ≤ n) (sym pushed.capacity) i.room;
      made = seated_more c.args.self.now c.args.turn_seats c.loop.room.items c.push_reserved.new.self.items c.loop.counter seat c.requires.seats at i.count i.made pushed.items;
    }

pub take_first-turn_seat-requires : goal.take_first-turn_seat-requires
take_first-turn_seat-requires g c =
    some_left c.args.turn_seats c.loop.turn_seats c.loop.counter c.loop.invariant.seats (subst (λ n. c.loop.counter < n) c.len-count.ensures c.loop-test.true)

pub returns-clause-seats : goal.returns-clause-seats
returns-clause-seats g c = subst (AreNewSeats c.args.self.now) (sym c.from_vec.ensures) c.loop.invariant.made

pub loop-init : goal.loop-init
loop-init g c = record {
  seats = refl;
  count = ap length c.requires.room.0;
  room = c.requires.room.1;
  made = subst (AreNewSeats c.args.self.now) (sym c.requires.room.0) (λ k other near. absurd (omega (arith, near)));
}
