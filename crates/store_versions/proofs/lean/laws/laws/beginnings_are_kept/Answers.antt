use Rattle.store_versions.proofs.Pins.{beginnings_are_kept, all_entries_are_the_history, places_tell_pins}
use Rattle.store_versions.proofs.lean.laws.laws.beginnings_are_kept.Goals as goal

pub returns : goal.returns
returns c = record { later = beginnings_are_kept; all = all_entries_are_the_history; pins = places_tell_pins }
