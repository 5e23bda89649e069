-- Where the directory of each version lies, and what a record or a change makes of it.
use Rattle.std.specs.Prelude.{◌≡◌, ℕ, Bool, ◌&&◌, if◌then◌else◌, nat_eq, nat_lt, List, Option, Some, None, IsTrue}
use Rattle.std.specs.List.{find}
use Rattle.std.specs.Str.{bytes_eq}
use Rattle.plan_changes.specs.declared.change.Change.{Change}
use Rattle.plan_changes.specs.Allowed.{names_allow}
use Rattle.plan_changes.specs.Changes.{next_of}
use Rattle.plan_changes.specs.Databases.{Database, names_of, after}
use Rattle.version_catalog.specs.declared.rules.catalog.BlobAt.{BlobAt}
use Rattle.version_catalog.specs.declared.rules.catalog.CatalogArray.{CatalogArray}
use Rattle.version_catalog.specs.declared.rules.catalog.Catalog.{Catalog}
use Rattle.version_catalog.specs.declared.rules.catalog_record.CatalogRecord.{CatalogRecord}
use Rattle.version_catalog.specs.declared.rules.catalog_record.CatalogRecord.TheVariants.{Create, First, Next, Remove, RemoveVersions}
use Rattle.version_catalog.specs.Catalogs.{IsCatalog, names_in}
use Rattle.version_catalog.specs.Spelling.{VersionAt, versions_at}
use Rattle.version_catalog.specs.Records.{entries_of, is_array, is_allowed, after_record}
use Rattle.version_catalog.specs.Changed.{has_its_directory, record_for, after_change}

abbrev pub directory_or : Option VersionAt → Option BlobAt
directory_or None = None
directory_or (Some version) = Some version.directory

abbrev pub directory_in : Option CatalogArray → ℕ → Option BlobAt
directory_in None number = None
directory_in (Some array) number = directory_or (find (λ version. nat_eq version.number number) (versions_at array.entry.versions array.directories))

-- the directory of each version of each name; none where there is no such version
abbrev pub directory_at : Catalog → List ℕ → ℕ → Option BlobAt
directory_at catalog name number = directory_in (find (is_array name) catalog.arrays) number

-- whether a version is the next one of a name
abbrev pub is_next : Catalog → List ℕ → List ℕ → ℕ → Bool
is_next catalog of name number = bytes_eq of name && nat_eq (next_of (entries_of catalog.arrays) of) number

-- the directory after a record: its own for the version that it makes, none for those that it takes away, else that before it
abbrev pub directory_after : Catalog → CatalogRecord → List ℕ → ℕ → Option BlobAt
directory_after catalog (Create of schema) name number = directory_at catalog name number
directory_after catalog (First of schema directory) name number = if is_next catalog of name number then Some directory else directory_at catalog name number
directory_after catalog (Next of directory) name number = if is_next catalog of name number then Some directory else directory_at catalog name number
directory_after catalog (Remove of) name number = if bytes_eq of name then None else directory_at catalog name number
directory_after catalog (RemoveVersions of below) name number = if bytes_eq of name && nat_lt number below then None else directory_at catalog name number

-- a record that is allowed does just this to the directories
abbrev pub RecordsMoveDirectories : Type 0
RecordsMoveDirectories = (catalog : Catalog) (entry : CatalogRecord) (name : List ℕ) (number : ℕ) → IsCatalog catalog → IsTrue (is_allowed catalog entry)
    → directory_at (after_record catalog entry) name number ≡ directory_after catalog entry name number

-- the record of a change that the names allow is allowed, and does what the change does
abbrev pub RecordsAreAllowed : Type 0
RecordsAreAllowed = (catalog : Catalog) (change : Change) (directory : Option BlobAt) (entry : CatalogRecord) → IsTrue (names_allow (names_in catalog) change)
    → record_for catalog change directory ≡ Some entry → IsTrue (is_allowed catalog entry)

abbrev pub RecordsDoTheirChange : Type 0
RecordsDoTheirChange = (catalog : Catalog) (change : Change) (directory : Option BlobAt) (entry : CatalogRecord)
    → IsTrue (names_allow (names_in catalog) change)
    → record_for catalog change directory ≡ Some entry → after_record catalog entry ≡ after_change catalog change directory

-- a catalogue with a database's names has those of the next database after a change, wherever its directories lie
abbrev pub CatalogsFollowDatabases : Type 0
CatalogsFollowDatabases = (db : Database) (catalog : Catalog) (change : Change) (directory : Option BlobAt) → names_in catalog ≡ names_of db
    → IsTrue (has_its_directory change directory)
    → names_in (after_change catalog change directory) ≡ names_of (after db change)
