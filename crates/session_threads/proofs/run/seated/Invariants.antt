use Rattle.std.proofs.Common.{◌≡◌, ◌≤◌, length, drop, vec_capacity}
use Rattle.session_threads.specs.Inner.Desks.{AreSeated}
use Rattle.session_threads.proofs.run.seated.Given as goal

abbrev pub invariant-loop : goal.invariant-loop
invariant-loop g l = record {
  seats : l.seats ≡ drop l.counter l.fn.seats;
  streams : l.streams ≡ drop l.counter l.fn.streams;
  count : length l.room.items ≡ l.counter;
  room : length l.fn.streams ≤ vec_capacity l.room;
  seated : AreSeated l.fn.seats l.fn.streams l.room.items;
}
