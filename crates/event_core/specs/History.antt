-- Histories, and what they make of a base. A history is a list of entries, the newest first: what stands behind an
-- entry is what was before it.
use Rattle.std.specs.Prelude.{ℕ, ◌-◌, Bool, true, not, ◌&&◌, nat_eq, nat_lt, if◌then◌else◌, List, [], ◌∷◌, ◌++◌, length, drop, Option, None, Some}
use Rattle.std.specs.List.{filter}
use Rattle.std.specs.Str.{bytes_eq}
use Rattle.plan_changes.specs.declared.change.Change.{Change}
use Rattle.plan_changes.specs.declared.change.Change.TheVariants.{Create, Store, Insert, Remove, RemoveVersions}
use Rattle.plan_changes.specs.Names.{Names}
use Rattle.plan_changes.specs.Changes.{names_after, next_of}
use Rattle.event_core.specs.declared.entry.Entry.{Entry}
use Rattle.event_core.specs.declared.entry.Entry.TheVariants.{Pin, Unpin, Commit, Reap}
use Rattle.event_core.specs.declared.state.VersionPages.{VersionPages}
use Rattle.event_core.specs.declared.state.Core.{Core}

-- entries, the newest first
abbrev pub History : Type 0
History = List Entry

-- the names after a history
abbrev pub names_at : Core → History → Names
names_at base [] = base.names
names_at base (Commit session change used ∷ before) = names_after (names_at base before) change
names_at base (Pin session ∷ before) = names_at base before
names_at base (Unpin session ∷ before) = names_at base before
names_at base (Reap ∷ before) = names_at base before

-- whether pages are those of an array
abbrev pub is_pages_of : List ℕ → VersionPages → Bool
is_pages_of name v = bytes_eq v.name name

-- the pages of the versions after a change: a new version has those that the commit used
abbrev pub pages_after : Names → Change → List ℕ → List VersionPages → List VersionPages
pages_after names (Create name schema) used pages = pages
pages_after names (Store name schema plan) used pages = pages ++ record { name = name; version = next_of names.arrays name; pages = used } ∷ []
pages_after names (Insert name schema plan) used pages = pages ++ record { name = name; version = next_of names.arrays name; pages = used } ∷ []
pages_after names (Remove name) used pages = filter (λ v. not (is_pages_of name v)) pages
pages_after names (RemoveVersions name below) used pages = filter (λ v. not (is_pages_of name v && nat_lt v.version below)) pages

-- the pages of the versions that can be named after a history
abbrev pub pages_at : Core → History → List VersionPages
pages_at base [] = base.pages
pages_at base (Commit session change used ∷ before) = pages_after (names_at base before) change used.version (pages_at base before)
pages_at base (Pin session ∷ before) = pages_at base before
pages_at base (Unpin session ∷ before) = pages_at base before
pages_at base (Reap ∷ before) = pages_at base before

-- the catalogue's pages after a history
abbrev pub catalogue_at : Core → History → List ℕ
catalogue_at base [] = base.catalogue
catalogue_at base (Commit session change used ∷ before) = used.catalogue
catalogue_at base (Pin session ∷ before) = catalogue_at base before
catalogue_at base (Unpin session ∷ before) = catalogue_at base before
catalogue_at base (Reap ∷ before) = catalogue_at base before

-- a pin that is open, with what was before it
pub record OpenPin : Type 0 where
  pub session : ℕ
  pub before : History

-- the pins that are open after a history, the oldest first
abbrev pub open_pins : History → List OpenPin
open_pins [] = []
open_pins (Pin session ∷ before) = open_pins before ++ record { session = session; before = before } ∷ []
open_pins (Unpin session ∷ before) = filter (λ pin. not (nat_eq pin.session session)) (open_pins before)
open_pins (Commit session change used ∷ before) = open_pins before
open_pins (Reap ∷ before) = open_pins before

-- what was before the open pin of a session, told by its own entries alone: none where it has no open pin
abbrev pub pin_before : ℕ → History → Option History
pin_before s [] = None
pin_before s (Pin t ∷ before) = if nat_eq t s then Some before else pin_before s before
pin_before s (Unpin t ∷ before) = if nat_eq t s then None else pin_before s before
pin_before s (Commit t change used ∷ before) = pin_before s before
pin_before s (Reap ∷ before) = pin_before s before

-- whether an entry is neither a pin nor an unpin of a session
abbrev pub leaves_pin : ℕ → Entry → Bool
leaves_pin s (Pin t) = not (nat_eq t s)
leaves_pin s (Unpin t) = not (nat_eq t s)
leaves_pin s (Commit t change used) = true
leaves_pin s Reap = true

-- the first so many entries of a history, the newest of them first: what was there when it had as many
abbrev pub up_to : ℕ → History → History
up_to place h = drop (length h - place) h
