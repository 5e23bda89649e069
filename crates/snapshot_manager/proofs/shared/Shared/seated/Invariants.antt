use Rattle.std.proofs.Common.{◌≡◌, ◌≤◌, length, drop, vec_capacity}
use Rattle.snapshot_manager.specs.Seats.{AreNewSeats}
use Rattle.snapshot_manager.proofs.shared.Shared.seated.Given as goal

abbrev pub invariant-loop : goal.invariant-loop
invariant-loop g l = record {
  seats : l.turn_seats ≡ drop l.counter l.fn.turn_seats;
  count : length l.room.items ≡ l.counter;
  room : length l.fn.turn_seats ≤ vec_capacity l.room;
  made : AreNewSeats l.self l.room.items;
}
