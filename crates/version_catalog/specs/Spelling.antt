-- The bytes of catalogues and records.
use Rattle.std.specs.Prelude.{ℕ, List, [], ◌∷◌, ◌++◌}
use Rattle.std.specs.Int.{w32, w64, to_le_bytes}
use Rattle.file_items.specs.Items.{spell_counted}
use Rattle.file_items.specs.Pages.{spell_pages}
use Rattle.file_items.specs.Spelling.{spell_name, spell_schema}
use Rattle.version_catalog.specs.declared.rules.catalog.BlobAt.{BlobAt}
use Rattle.version_catalog.specs.declared.rules.catalog.CatalogArray.{CatalogArray}
use Rattle.version_catalog.specs.declared.rules.catalog.Catalog.{Catalog}
use Rattle.version_catalog.specs.declared.rules.catalog_record.CatalogRecord.{CatalogRecord}
use Rattle.version_catalog.specs.declared.rules.catalog_record.CatalogRecord.TheVariants.{Create, First, Next, Remove, RemoveVersions}

-- the length and the pages
unfoldable pub spell_blob : BlobAt → List ℕ
spell_blob blob = to_le_bytes w64 blob.length ++ spell_pages blob.pages

-- a version and where its directory lies
pub record VersionAt : Type 0 where
  pub number : ℕ
  pub directory : BlobAt

-- the versions of an array, each with its directory
abbrev pub versions_at : List ℕ → List BlobAt → List VersionAt
versions_at [] directories = []
versions_at (number ∷ numbers) [] = []
versions_at (number ∷ numbers) (directory ∷ directories) = record { number = number; directory = directory } ∷ versions_at numbers directories

unfoldable pub spell_version : VersionAt → List ℕ
spell_version version = to_le_bytes w32 version.number ++ spell_blob version.directory

-- the name, the schema, the number of the next version, and the versions with their count before them
unfoldable pub spell_array : CatalogArray → List ℕ
spell_array array = spell_name array.entry.name
    ++ (spell_schema array.entry.schema ++ (to_le_bytes w32 array.entry.next ++ spell_counted w32 spell_version
    (versions_at array.entry.versions array.directories)))

-- the arrays with their count before them
unfoldable pub spelling : Catalog → List ℕ
spelling catalog = spell_counted w32 spell_array catalog.arrays

-- the number of the kind, and what belongs to it
unfoldable pub spell_record : CatalogRecord → List ℕ
spell_record (Create name schema) = 1 ∷ (spell_name name ++ spell_schema schema)
spell_record (First name schema directory) = 2 ∷ ((spell_name name ++ spell_schema schema) ++ spell_blob directory)
spell_record (Next name directory) = 3 ∷ (spell_name name ++ spell_blob directory)
spell_record (Remove name) = 4 ∷ spell_name name
spell_record (RemoveVersions name below) = 5 ∷ (spell_name name ++ to_le_bytes w32 below)
