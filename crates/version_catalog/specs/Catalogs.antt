-- Catalogues and records that have a spelling.
use Rattle.std.specs.Prelude.{◌≡◌, ◌<◌, ◌^◌, map, length}
use Rattle.std.specs.List.{AllByRecursion}
use Rattle.file_items.specs.Naming.{IsName}
use Rattle.plan_changes.specs.Names.{Names}
use Rattle.file_items.specs.Pages.{LieIn}
use Rattle.plan_changes.specs.Stored.{AreStored}
use Rattle.file_items.specs.Spelling.{IsSpelled}
use Rattle.version_catalog.specs.declared.rules.catalog.BlobAt.{BlobAt}
use Rattle.version_catalog.specs.declared.rules.catalog.CatalogArray.{CatalogArray}
use Rattle.version_catalog.specs.declared.rules.catalog.Catalog.{Catalog}
use Rattle.version_catalog.specs.declared.rules.catalog_record.CatalogRecord.{CatalogRecord}
use Rattle.version_catalog.specs.declared.rules.catalog_record.CatalogRecord.TheVariants.{Create, First, Next, Remove, RemoveVersions}

-- some bytes, in as many pages as they need
abbrev pub IsBlob : BlobAt → Type 0
IsBlob blob = LieIn blob.length blob.pages

-- the stored arrays' names
abbrev pub names_in : Catalog → Names
names_in catalog = record { arrays = map (λ array. array.entry) catalog.arrays }

-- an array with a directory for each version
pub record HasDirectories (array : CatalogArray) : Type 0 where
  pub one_each : length array.directories ≡ length array.entry.versions
  pub blobs : AllByRecursion IsBlob array.directories

-- at most 1,024 arrays by their rising names, each with rising version numbers below the next one and a directory for each
pub record IsCatalog (catalog : Catalog) : Type 0 where
  pub names : AreStored (names_in catalog)
  pub each : AllByRecursion HasDirectories catalog.arrays

-- a name, a schema that has a spelling, a directory, a number, as the kind of the record has them. Whether a catalogue allows
-- it is not said here
abbrev pub IsRecord : CatalogRecord → Type 0
IsRecord (Create name schema) = IsName name × IsSpelled schema
IsRecord (First name schema directory) = IsName name × IsSpelled schema × IsBlob directory
IsRecord (Next name directory) = IsName name × IsBlob directory
IsRecord (Remove name) = IsName name
IsRecord (RemoveVersions name below) = IsName name × (below < 2 ^ 32)
