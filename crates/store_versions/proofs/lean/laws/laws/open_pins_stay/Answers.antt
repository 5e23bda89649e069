use Rattle.store_versions.proofs.Pins.{pins_stay, open_pins_stay}
use Rattle.store_versions.proofs.lean.laws.laws.open_pins_stay.Goals as goal

pub returns : goal.returns
returns c = record { begun = pins_stay; kept = open_pins_stay }
