-- Versions with their pages, and the places that see them.
use Rattle.std.specs.Prelude.{ℕ, ◌+◌, Bool, true, false, ◌&&◌, ◌||◌, nat_le, nat_lt, if◌then◌else◌, List, [], ◌∷◌, ◌++◌, map, Option, None, Some}
use Rattle.std.specs.List.{filter, list_any}
use Rattle.plan_changes.specs.Names.{Names}
use Rattle.plan_changes.specs.declared.change.Change.{Change}
use Rattle.plan_changes.specs.declared.change.Change.TheVariants.{Create, Store, Insert, Remove, RemoveVersions}
use Rattle.plan_changes.specs.Changes.{next_of}
use Rattle.event_core.specs.declared.state.VersionPages.{VersionPages}
use Rattle.event_core.specs.History.{is_pages_of}
use Rattle.store_versions.specs.declared.lean.lean.pin.LeanPin.{LeanPin}
use Rattle.store_versions.specs.declared.lean.lean.row.Row.{Row}

-- whether a place is before a version goes
abbrev pub is_before : ℕ → Option ℕ → Bool
is_before place None = true
is_before place (Some gone) = nat_lt place gone

-- a place sees the versions that were made by then and that go later
abbrev pub is_seen : ℕ → Row → Bool
is_seen place row = nat_le row.made place && is_before place row.gone

-- whether a version stands
abbrev pub stands : Option ℕ → Bool
stands None = true
stands (Some gone) = false

-- whether a version stands, or one of these pins sees it
abbrev pub is_needed : List LeanPin → Row → Bool
is_needed pins row = stands row.gone || list_any (λ pin. is_seen pin.place row) pins

-- the versions that stand, and those that a place sees
abbrev pub standing : List Row → List VersionPages
standing rows = map (λ row. row.version) (filter (λ row. stands row.gone) rows)

abbrev pub seen : ℕ → List Row → List VersionPages
seen place rows = map (λ row. row.version) (filter (is_seen place) rows)

-- the row of a version that was there at the beginning, and of one that the commit at a place made
abbrev pub first_row : VersionPages → Row
first_row version = record { version = version; made = 0; gone = None }

abbrev pub new_row : ℕ → VersionPages → Row
new_row place version = record { version = version; made = place + 1; gone = None }

-- a version that stands goes by the commit at a place, if it passes a test
abbrev pub ended : (VersionPages → Bool) → ℕ → Row → Row
ended goes place row = if goes row.version && stands row.gone then record row { gone = Some (place + 1) } else row

abbrev pub is_below : List ℕ → ℕ → VersionPages → Bool
is_below name below v = is_pages_of name v && nat_lt v.version below

-- the next version of an array
abbrev pub next_version : Names → List ℕ → List ℕ → VersionPages
next_version names name used = record { name = name; version = next_of names.arrays name; pages = used }

-- the rows after the commit of a change at a place: a new version has these pages
abbrev pub rows_after : Names → ℕ → Change → List ℕ → List Row → List Row
rows_after names place (Create name schema) used rows = rows
rows_after names place (Store name schema plan) used rows = rows ++ new_row place (next_version names name used) ∷ []
rows_after names place (Insert name schema plan) used rows = rows ++ new_row place (next_version names name used) ∷ []
rows_after names place (Remove name) used rows = map (ended (is_pages_of name) place) rows
rows_after names place (RemoveVersions name below) used rows = map (ended (is_below name below) place) rows
