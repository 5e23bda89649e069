-- What a change of the database makes of the catalogue.
use Rattle.std.specs.Prelude.{◌≡◌, ℕ, Bool, true, false, if◌then◌else◌, List, map, Option, Some, None, IsTrue}
use Rattle.cell_values.specs.declared.schema.Schema.{Schema}
use Rattle.plan_changes.specs.declared.change.Change.{Change}
use Rattle.plan_changes.specs.declared.change.Change.TheVariants.{Create, Store, Insert, Remove, RemoveVersions}
use Rattle.plan_changes.specs.Allowed.{names_allow}
use Rattle.plan_changes.specs.Changes.{has_array, names_after}
use Rattle.plan_changes.specs.Stored.{HasItsNames}
use Rattle.version_catalog.specs.declared.rules.catalog.BlobAt.{BlobAt}
use Rattle.version_catalog.specs.declared.rules.catalog.CatalogArray.{CatalogArray}
use Rattle.version_catalog.specs.declared.rules.catalog.Catalog.{Catalog}
use Rattle.version_catalog.specs.declared.rules.catalog_record.CatalogRecord.{CatalogRecord}
use Rattle.version_catalog.specs.declared.rules.catalog_record.CatalogRecord.TheVariants as entries
use Rattle.version_catalog.specs.declared.rules.catalog_record.CatalogRecord.TheVariants.{First, Next}
use Rattle.version_catalog.specs.Catalogs.{IsBlob, IsCatalog, IsRecord, names_in}
use Rattle.version_catalog.specs.Records.{entries_of, is_allowed, with_new, with_directory, from_version, without, after_record}

-- a directory comes with a change that makes a version, and with no other
abbrev pub has_its_directory : Change → Option BlobAt → Bool
has_its_directory (Store name schema plan) (Some directory) = true
has_its_directory (Store name schema plan) None = false
has_its_directory (Insert name schema plan) (Some directory) = true
has_its_directory (Insert name schema plan) None = false
has_its_directory change (Some directory) = false
has_its_directory change None = true

-- the new version's directory
abbrev pub with_its_directory : List ℕ → Option BlobAt → List CatalogArray → List CatalogArray
with_its_directory name None arrays = arrays
with_its_directory name (Some directory) arrays = map (with_directory name directory) arrays

abbrev pub changed : List CatalogArray → Change → Option BlobAt → List CatalogArray
changed arrays (Create name schema) directory = with_new name schema arrays
changed arrays (Store name schema plan) directory = with_its_directory name directory
    (if has_array (entries_of arrays) name then arrays else with_new name schema arrays)
changed arrays (Insert name schema plan) directory = with_its_directory name directory arrays
changed arrays (Remove name) directory = without name arrays
changed arrays (RemoveVersions name below) directory = map (from_version name below) arrays

-- the catalogue after a change
abbrev pub after_change : Catalog → Change → Option BlobAt → Catalog
after_change catalog change directory = record { arrays = changed catalog.arrays change directory }

-- the record of a version of an array that stands, or of a new one
abbrev pub stored_by : Catalog → List ℕ → Schema → BlobAt → CatalogRecord
stored_by catalog name schema directory = if has_array (entries_of catalog.arrays) name then Next name directory else First name schema directory

-- the record of a change with its directory
abbrev pub record_for : Catalog → Change → Option BlobAt → Option CatalogRecord
record_for catalog (Create name schema) directory = Some (entries.Create name schema)
record_for catalog (Store name schema plan) None = None
record_for catalog (Store name schema plan) (Some directory) = Some (stored_by catalog name schema directory)
record_for catalog (Insert name schema plan) None = None
record_for catalog (Insert name schema plan) (Some directory) = Some (Next name directory)
record_for catalog (Remove name) directory = Some (entries.Remove name)
record_for catalog (RemoveVersions name below) directory = Some (entries.RemoveVersions name below)

-- the names of the catalogue after a change are those after the change
abbrev pub NamesAreKept : Type 0
NamesAreKept = (catalog : Catalog) (change : Change) (directory : Option BlobAt) → IsTrue (has_its_directory change directory)
    → names_in (after_change catalog change directory) ≡ names_after (names_in catalog) change

-- a record that is allowed leaves a catalogue that has a spelling
abbrev pub RecordsKeepCatalogs : Type 0
RecordsKeepCatalogs = (catalog : Catalog) (entry : CatalogRecord) → IsCatalog catalog → IsRecord entry
    → IsTrue (is_allowed catalog entry) → IsCatalog (after_record catalog entry)

-- a directory, where one comes, in as many pages as it needs
abbrev pub IsItsBlob : Option BlobAt → Type 0
IsItsBlob None = Unit {0}
IsItsBlob (Some directory) = IsBlob directory

-- the record of a change that the names allow has a spelling
abbrev pub ChangesHaveRecords : Type 0
ChangesHaveRecords = (catalog : Catalog) (change : Change) (directory : Option BlobAt) (entry : CatalogRecord) → IsCatalog catalog
    → HasItsNames change → IsTrue (names_allow (names_in catalog) change) → IsItsBlob directory →
    record_for catalog change directory ≡ Some entry → IsRecord entry

-- such a change leaves a catalogue that has a spelling
abbrev pub ChangesKeepCatalogs : Type 0
ChangesKeepCatalogs = (catalog : Catalog) (change : Change) (directory : Option BlobAt) → IsCatalog catalog → HasItsNames change
    → IsTrue (names_allow (names_in catalog) change) → IsTrue (has_its_directory change directory) → IsItsBlob directory →
    IsCatalog (after_change catalog change directory)
