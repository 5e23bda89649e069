-- When a catalogue allows a record, and what the record makes of it.
use Rattle.std.specs.Prelude.{ℕ, Bool, not, ◌&&◌, if◌then◌else◌, List, [], ◌∷◌, ◌++◌, map, drop, insert, nat_lt, nat_le, Option, Some, None}
use Rattle.std.specs.List.{filter, list_all, prefix_len, count_by}
use Rattle.cell_values.specs.declared.schema.Schema.{Schema}
use Rattle.plan_changes.specs.NameEntry.{NameEntry}
use Rattle.plan_changes.specs.Allowed.{has_room, has_number}
use Rattle.plan_changes.specs.Changes.{is_named, has_array, last_of, newest_of, new_entry, with_version, without_below}
use Rattle.plan_changes.specs.Stored.{is_before}
use Rattle.version_catalog.specs.declared.rules.catalog.BlobAt.{BlobAt}
use Rattle.version_catalog.specs.declared.rules.catalog.CatalogArray.{CatalogArray}
use Rattle.version_catalog.specs.declared.rules.catalog.Catalog.{Catalog}
use Rattle.version_catalog.specs.declared.rules.catalog_record.CatalogRecord.{CatalogRecord}
use Rattle.version_catalog.specs.declared.rules.catalog_record.CatalogRecord.TheVariants.{Create, First, Next, Remove, RemoveVersions}

abbrev pub entries_of : List CatalogArray → List NameEntry
entries_of arrays = map (λ array. array.entry) arrays

-- the table of the records: an array is made where none has its name and one more may stand; it gets a version where it has a
-- number for one; what stands is removed, or its versions below a number from 1 to the newest
abbrev pub allows : List NameEntry → CatalogRecord → Bool
allows entries (Create name schema) = not (has_array entries name) && has_room entries
allows entries (First name schema directory) = not (has_array entries name) && has_room entries
allows entries (Next name directory) = has_array entries name && list_all (has_number name) entries
allows entries (Remove name) = has_array entries name
allows entries (RemoveVersions name below) = has_array entries name && (nat_le 1 below && nat_le below (newest_of entries name))

-- the newest version of an array: 0 where there is none
abbrev pub newest_in : Option CatalogArray → ℕ
newest_in None = 0
newest_in (Some array) = last_of array.entry.versions

abbrev pub is_allowed : Catalog → CatalogRecord → Bool
is_allowed catalog entry = allows (entries_of catalog.arrays) entry

-- ---- what a record makes of the arrays

abbrev pub is_array : List ℕ → CatalogArray → Bool
is_array name array = is_named name array.entry

-- one more array without versions, in its place by name
abbrev pub with_new : List ℕ → Schema → List CatalogArray → List CatalogArray
with_new name schema arrays = insert arrays (prefix_len (λ array. is_before array.entry.name name) arrays)
    (record { entry = new_entry name schema; directories = [] })

-- one more version under the next number, and its directory
abbrev pub with_directory : List ℕ → BlobAt → CatalogArray → CatalogArray
with_directory name directory array = if is_array name array then record {
  entry = with_version name array.entry;
  directories = array.directories ++ directory ∷ [];
} else array

-- no version below a number. As many of the first directories go as versions
abbrev pub from_version : List ℕ → ℕ → CatalogArray → CatalogArray
from_version name below array = if is_array name array then record {
  entry = without_below name below array.entry;
  directories = drop (count_by (λ version. nat_lt version below) array.entry.versions) array.directories;
} else array

abbrev pub without : List ℕ → List CatalogArray → List CatalogArray
without name arrays = filter (λ array. not (is_array name array)) arrays

abbrev pub recorded : List CatalogArray → CatalogRecord → List CatalogArray
recorded arrays (Create name schema) = with_new name schema arrays
recorded arrays (First name schema directory) = map (with_directory name directory) (with_new name schema arrays)
recorded arrays (Next name directory) = map (with_directory name directory) arrays
recorded arrays (Remove name) = without name arrays
recorded arrays (RemoveVersions name below) = map (from_version name below) arrays

-- the catalogue after a record
abbrev pub after_record : Catalog → CatalogRecord → Catalog
after_record catalog entry = record { arrays = recorded catalog.arrays entry }
