use Rattle.store_versions.proofs.Pins.{open_pins_are_these, core_pins_are_these}
use Rattle.store_versions.proofs.lean.laws.laws.open_pins_are_these.Goals as goal

pub returns : goal.returns
returns c = record { history = open_pins_are_these; core = core_pins_are_these }
