-- What a lean core stands for.
use Rattle.std.specs.Prelude.{ℕ, List, map}
use Rattle.plan_changes.specs.Names.{Names}
use Rattle.event_core.specs.declared.state.CorePin.{CorePin}
use Rattle.event_core.specs.declared.state.Core.{Core}
use Rattle.store_versions.specs.declared.lean.lean.pin.LeanPin.{LeanPin}
use Rattle.store_versions.specs.declared.lean.lean.row.Row.{Row}
use Rattle.store_versions.specs.LeanRows.{standing, seen}

-- a lean core as contracts see it: the core that it stands for, and for how many versions more it has room
pub record LeanState : Type 0 where
  pub core : Core
  pub room : ℕ

-- a pin could name what its place sees
abbrev pub pin_of : List Row → LeanPin → CorePin
pin_of rows pin = record { session = pin.session; place = pin.place; names = pin.names.value; pages = seen pin.place rows }

-- the session and the place of a pin
abbrev pub place_of : LeanPin → ℕ × ℕ
place_of pin = (pin.session, pin.place)

abbrev pub core_place : CorePin → ℕ × ℕ
core_place pin = (pin.session, pin.place)

-- the core whose versions stand, and whose pins see theirs
abbrev pub core_of : Names → List Row → List ℕ → List LeanPin → List ℕ → ℕ → ℕ → Core
core_of names rows catalogue pins free limit entries = record {
  names = names;
  pages = standing rows;
  catalogue = catalogue;
  pins = map (pin_of rows) pins;
  free = free;
  limit = limit;
  entries = entries;
}
