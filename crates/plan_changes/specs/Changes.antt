-- The stored arrays' names after a change.
use Rattle.std.specs.Prelude.{ℕ, ◌+◌, ◌-◌, Bool, if◌then◌else◌, not, List, [], ◌∷◌, ◌++◌, map, length, insert, nat_lt, slice_index_or, Option, None, Some}
use Rattle.std.specs.List.{filter, find, list_any, prefix_len}
use Rattle.std.specs.Ordering.{nat_cmp, is_lt}
use Rattle.std.specs.Cmp.Lexicographic.{slice_cmp}
use Rattle.std.specs.Str.{bytes_eq}
use Rattle.expr_nulls.specs.Schema.{Schema}
use Rattle.logical_plan.specs.declared.names.NameEntry.{NameEntry}
use Rattle.logical_plan.specs.declared.names.Names.{Names}
use Rattle.plan_changes.specs.declared.change.Change.{Change}
use Rattle.plan_changes.specs.declared.change.Change.TheVariants.{Create, Store, Insert, Remove, RemoveVersions}

-- whether an array has a name
abbrev pub is_named : List ℕ → NameEntry → Bool
is_named name entry = bytes_eq entry.name name

-- whether some array has a name
abbrev pub has_array : List NameEntry → List ℕ → Bool
has_array entries name = list_any (is_named name) entries

-- the array of a name
abbrev pub entry_named : List NameEntry → List ℕ → Option NameEntry
entry_named entries name = find (is_named name) entries

-- the number of the next version: 1 where no array has the name
abbrev pub next_or : Option NameEntry → ℕ
next_or None = 1
next_or (Some entry) = entry.next

abbrev pub next_of : List NameEntry → List ℕ → ℕ
next_of entries name = next_or (entry_named entries name)

-- the last of some numbers, which is the greatest where they rise. 0 where there is none
abbrev pub last_of : List ℕ → ℕ
last_of numbers = slice_index_or numbers (length numbers - 1) 0

-- the newest version: 0 where there is none
abbrev pub newest_or : Option NameEntry → ℕ
newest_or None = 0
newest_or (Some entry) = last_of entry.versions

abbrev pub newest_of : List NameEntry → List ℕ → ℕ
newest_of entries name = newest_or (entry_named entries name)

-- the name that a change is about
abbrev pub name_of : Change → List ℕ
name_of (Create name schema) = name
name_of (Store name schema plan) = name
name_of (Insert name schema plan) = name
name_of (Remove name) = name
name_of (RemoveVersions name below) = name

-- how many arrays come before a name, in byte order
abbrev pub place_of : List NameEntry → List ℕ → ℕ
place_of entries name = prefix_len (λ entry. is_lt (slice_cmp nat_cmp entry.name name)) entries

-- a new array has no version, and its first one has the number 1
abbrev pub new_entry : List ℕ → Schema → NameEntry
new_entry name schema = record { name = name; schema = schema; next = 1; versions = [] }

-- one more array, in its place by name
abbrev pub with_array : List ℕ → Schema → List NameEntry → List NameEntry
with_array name schema entries = insert entries (place_of entries name) (new_entry name schema)

-- one more array, if none has the name
abbrev pub with_absent : List ℕ → Schema → List NameEntry → List NameEntry
with_absent name schema entries = if has_array entries name then entries else with_array name schema entries

-- one more version under the next number, which rises by 1
abbrev pub with_version : List ℕ → NameEntry → NameEntry
with_version name entry = if is_named name entry then record entry { next = entry.next + 1; versions = entry.versions ++ entry.next ∷ [] } else entry

-- no version below a number. The next number stays
abbrev pub without_below : List ℕ → ℕ → NameEntry → NameEntry
without_below name below entry = if is_named name entry then record entry { versions = filter (λ v. not (nat_lt v below)) entry.versions } else entry

abbrev pub arrays_after : List NameEntry → Change → List NameEntry
arrays_after entries (Create name schema) = with_array name schema entries
arrays_after entries (Store name schema plan) = map (with_version name) (with_absent name schema entries)
arrays_after entries (Insert name schema plan) = map (with_version name) entries
arrays_after entries (Remove name) = filter (λ entry. not (is_named name entry)) entries
arrays_after entries (RemoveVersions name below) = map (without_below name below) entries

abbrev pub names_after : Names → Change → Names
names_after names change = record { arrays = arrays_after names.arrays change }
