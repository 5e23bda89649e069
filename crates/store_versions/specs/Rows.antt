-- What entries make of a table of versions.
use Rattle.std.specs.Prelude.{◌≡◌, ◌<◌, ℕ, ◌+◌, Bool, true, false, ◌&&◌, ◌||◌, nat_le, nat_lt}
use Rattle.std.specs.Prelude.{if◌then◌else◌, List, [], ◌∷◌, ◌++◌, length, map, Option, None, Some}
use Rattle.std.specs.List.{filter, list_any}
use Rattle.std.specs.Str.{bytes_eq}
use Rattle.plan_changes.specs.Names.{Names}
use Rattle.plan_changes.specs.NameEntry.{NameEntry}
use Rattle.plan_changes.specs.declared.change.Change.{Change}
use Rattle.plan_changes.specs.declared.change.Change.TheVariants.{Create, Store, Insert, Remove, RemoveVersions}
use Rattle.plan_changes.specs.Changes.{next_of}
use Rattle.chunk_map.specs.declared.directory.Directory.{Directory}
use Rattle.event_core.specs.History.{History, open_pins}
use Rattle.store_versions.specs.declared.ready.ReadyVersion.{ReadyVersion}
use Rattle.store_versions.specs.declared.row.VersionRow.{VersionRow}

-- whether a place is before a version goes
abbrev pub is_before : ℕ → Option ℕ → Bool
is_before place None = true
is_before place (Some gone) = nat_lt place gone

-- a place sees the versions that were made by then and that go later
abbrev pub is_seen : ℕ → VersionRow → Bool
is_seen place row = nat_le row.made place && is_before place row.gone

-- whether a version stands
abbrev pub stands : Option ℕ → Bool
stands None = true
stands (Some gone) = false

-- the places of the open pins
abbrev pub places_at : History → List ℕ
places_at h = map (λ pin. length pin.before) (open_pins h)

-- whether a version stands, or one of these places sees it
abbrev pub is_needed : List ℕ → VersionRow → Bool
is_needed places row = stands row.gone || list_any (λ place. is_seen place row) places

-- the row of a new version, and of one that was there at the base
abbrev pub new_row : List ℕ → ℕ → ℕ → Directory → VersionRow
new_row name version place directory = record { name = name; version = version; made = place + 1; gone = None; directory = directory }

abbrev pub first_row : List ℕ → ℕ → Directory → VersionRow
first_row name version directory = record { name = name; version = version; made = 0; gone = None; directory = directory }

-- a version that stands goes by the commit at a place, if it passes a test
abbrev pub ended : (VersionRow → Bool) → ℕ → VersionRow → VersionRow
ended test place row = if test row && stands row.gone then record row { gone = Some (place + 1) } else row

abbrev pub is_row_of : List ℕ → VersionRow → Bool
is_row_of name row = bytes_eq row.name name

abbrev pub is_row_below : List ℕ → ℕ → VersionRow → Bool
is_row_below name below row = is_row_of name row && nat_lt row.version below

-- the rows after the commit of a change at a place
abbrev pub rows_after : Names → ℕ → Change → Directory → List VersionRow → List VersionRow
rows_after names place (Create name schema) directory rows = rows
rows_after names place (Store name schema plan) directory rows = rows ++ new_row name (next_of names.arrays name) place directory ∷ []
rows_after names place (Insert name schema plan) directory rows = rows ++ new_row name (next_of names.arrays name) place directory ∷ []
rows_after names place (Remove name) directory rows = map (ended (is_row_of name) place) rows
rows_after names place (RemoveVersions name below) directory rows = map (ended (is_row_below name below) place) rows

-- the rows that are left where those go that nobody can name any more
abbrev pub needed_rows : List ℕ → List VersionRow → List VersionRow
needed_rows places rows = filter (is_needed places) rows

-- the rows at the opening: of each array its versions, each with its directory
abbrev pub array_rows : List ℕ → List ℕ → List Directory → List VersionRow
array_rows name (number ∷ numbers) (directory ∷ directories) = first_row name number directory ∷ array_rows name numbers directories
array_rows name [] directories = []
array_rows name (number ∷ numbers) [] = []

abbrev pub first_rows : List NameEntry → List (List Directory) → List VersionRow
first_rows (entry ∷ entries) (directories ∷ others) = array_rows entry.name entry.versions directories ++ first_rows entries others
first_rows [] others = []
first_rows (entry ∷ entries) [] = []

-- ---- what is ready for a change

-- a version of this name and number, with room for one row more than so many
pub record IsVersionOf (array : List ℕ) (number count : ℕ) (ready : ReadyVersion) : Type 0 where
  pub name : ready.name ≡ array
  pub version : ready.version ≡ number
  pub room : count < ready.room

abbrev pub HasNext : List ℕ → ℕ → ℕ → Option ReadyVersion → Type 0
HasNext name number count None = ⊥
HasNext name number count (Some ready) = IsVersionOf name number count ready

-- a change that makes a version has its next one ready
abbrev pub IsReadyFor : Names → Change → ℕ → Option ReadyVersion → Type 0
IsReadyFor names (Create name schema) count ready = Unit {0}
IsReadyFor names (Store name schema plan) count ready = HasNext name (next_of names.arrays name) count ready
IsReadyFor names (Insert name schema plan) count ready = HasNext name (next_of names.arrays name) count ready
IsReadyFor names (Remove name) count ready = Unit {0}
IsReadyFor names (RemoveVersions name below) count ready = Unit {0}

-- the directory of a version that is ready. Where none is, no change asks for it
abbrev pub directory_in : Option ReadyVersion → Directory
directory_in None = record { entries = [] }
directory_in (Some ready) = ready.directory
