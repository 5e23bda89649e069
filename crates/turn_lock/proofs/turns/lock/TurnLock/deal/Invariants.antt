use Rattle.std.proofs.Common.{◌≡◌, ◌≤◌, ◌-◌, [], length, vec_capacity, Some}
use Rattle.turn_lock.specs.declared.turns.view.Stage.TheVariants.{Idle}
use Rattle.turn_lock.specs.Seats.{first_value, AreNewSeats}
use Rattle.turn_lock.specs.Inner.Views.{new_claims}
use Rattle.turn_lock.proofs.turns.lock.TurnLock.deal.Given as goal

abbrev pub invariant-loop-number : goal.invariant-loop-number
invariant-loop-number g l = record {
  table : l.later.table_id ≡ l.self.table.shared.table_id;
  stage : l.later.me.0.stage ≡ Idle;
  slot : l.later.me.1 ≡ [];
  source : l.later.me.0.first ≡ Some (first_value l.self);
  claims : l.later.me.0.claims ≡ new_claims l.number (l.seats - l.number);
  count : length l.places.items ≡ l.number;
  room : l.seats ≤ vec_capacity l.places;
  dealt : AreNewSeats l.self l.places.items;
}
