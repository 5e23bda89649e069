use Rattle.array_store.proofs.Notes.{notes_outlast, others_leave_notes}
use Rattle.array_store.proofs.Sights.{others_leave_pins, pins_outlast, pins_see_the_same}
use Rattle.array_store.proofs.Turning.{turns_add_own, turns_find}
use Rattle.array_store.proofs.told.told.laws.turns_are_seen.Goals as goal

pub returns : goal.returns
returns g c = record {
  found = turns_find;
  own = turns_add_own;
  others = others_leave_pins;
  outlast = pins_outlast _;
  notes = others_leave_notes;
  noted = notes_outlast _;
  sight = pins_see_the_same _;
}
