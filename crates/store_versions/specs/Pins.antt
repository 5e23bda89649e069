-- What is known of an open pin whatever comes after it.
use Rattle.std.specs.Prelude.{◌≡◌, ◌<◌, ℕ, nat_eq, List, [], ◌∷◌, ◌++◌, length, map, Option, None, Some, IsTrue}
use Rattle.std.specs.List.{filter, list_all}
use Rattle.plan_changes.specs.Databases.{Database}
use Rattle.event_core.specs.declared.entry.Entry.TheVariants.{Pin}
use Rattle.event_core.specs.declared.state.Core.{Core}
use Rattle.event_core.specs.Allowed.{is_allowed}
use Rattle.event_core.specs.Cells.{at}
use Rattle.event_core.specs.History.{History, OpenPin, names_at, pages_at, open_pins, pin_before, leaves_pin, up_to}
use Rattle.event_core.specs.Replay.{pin_at, core_at}

-- what was before a session's pin is found behind it, and is left by all entries but its own pins and unpins
abbrev pub PinsStay : Type 0
PinsStay = (session : ℕ) (later before : History) → IsTrue (list_all (leaves_pin session) later)
    → pin_before session (later ++ Pin session ∷ before) ≡ Some before

-- the same of a pin that is open: no other session's entry, no reap and no commit closes it or makes it another one
abbrev pub OpenPinsStay : Type 0
OpenPinsStay = (session : ℕ) (later h : History) → IsTrue (list_all (leaves_pin session) later) → pin_before session (later ++ h) ≡ pin_before session h

-- the open pins of a session
abbrev pub pins_of : ℕ → Option History → List OpenPin
pins_of session None = []
pins_of session (Some before) = record { session = session; before = before } ∷ []

-- after an allowed history a session has one open pin at most, and it is this one
abbrev pub OpenPinsAreThese : Type 0
OpenPinsAreThese = (base : Core) (session : ℕ) (h : History) → IsTrue (is_allowed base h) →
    filter (λ pin. nat_eq pin.session session) (open_pins h) ≡ pins_of session (pin_before session h)

-- so of the core's pins
abbrev pub CorePinsAreThese : Type 0
CorePinsAreThese = (base : Core) (session : ℕ) (h : History) → IsTrue (is_allowed base h) →
    filter (λ pin. nat_eq pin.session session) (core_at base h).pins ≡ map (pin_at base) (pins_of session (pin_before session h))

-- what was before is found again by its number of entries, whatever came later
abbrev pub BeginningsAreKept : Type 0
BeginningsAreKept = (later before : History) → up_to (length before) (later ++ before) ≡ before

-- all entries are the whole history
abbrev pub AllEntriesAreTheHistory : Type 0
AllEntriesAreTheHistory = (h : History) → up_to (length h) h ≡ h

-- the place of an open pin is below the number of entries, and what could be named at the pin, its pages and its database are told by it
pub record PlaceTells (h before : History) : Type 0 where
  pub within : length before < length h
  pub history : up_to (length before) h ≡ before
  pub names : (base : Core) → names_at base (up_to (length before) h) ≡ names_at base before
  pub pages : (base : Core) → pages_at base (up_to (length before) h) ≡ pages_at base before
  pub database : (db : Database) → at db (up_to (length before) h) ≡ at db before

abbrev pub PlacesTellPins : Type 0
PlacesTellPins = (session : ℕ) (h before : History) → pin_before session h ≡ Some before → PlaceTells h before
