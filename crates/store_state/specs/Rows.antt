-- The directories and the pages of a catalogue's versions, array by array.
use Rattle.std.specs.Prelude.{◌≡◌, ℕ, List, map, Option, Some, None}
use Rattle.std.specs.List.{AllByRecursion, filter}
use Rattle.array_rows.specs.Boxes.{by_pairs}
use Rattle.chunk_map.specs.declared.directory.Directory.{Directory}
use Rattle.logical_plan.specs.declared.names.Names.{Names}
use Rattle.file_meaning.specs.Change.{Change}
use Rattle.file_meaning.specs.Change.TheVariants.{Store, Insert}
use Rattle.file_meaning.specs.Catalog.{Catalog}
use Rattle.store_versions.specs.VersionPages.{VersionPages}
use Rattle.store_versions.specs.History.{is_pages_of}
use Rattle.file_meaning.specs.Opening.{version_pages}
use Rattle.file_meaning.specs.Next.{Made, Rows}
use Rattle.store_versions.specs.Versions.{MadeVersion, is_of}

-- of each array of a catalogue the directories of its versions, in their order
abbrev pub directories_in : Catalog → List MadeVersion → Rows
directories_in catalog versions = map (λ array. map (λ v. v.directory) (filter (is_of array.entry.name) versions)) catalog.arrays

-- and their pages
abbrev pub pages_in : Catalog → List VersionPages → List (List (List ℕ))
pages_in catalog pages = map (λ array. map (λ v. v.pages) (filter (is_pages_of array.entry.name) pages)) catalog.arrays

-- the pages that directories have where the catalogue says that they lie: of each its own and its payloads'
abbrev pub pages_of_rows : Catalog → Rows → List (List (List ℕ))
pages_of_rows catalog rows = by_pairs (λ array row. by_pairs version_pages array.directories row) catalog.arrays rows

-- the versions of each array stand in the order of its numbers
abbrev pub AreInOrder : Names → List MadeVersion → Type 0
AreInOrder names versions = AllByRecursion (λ entry. map (λ v. v.version) (filter (is_of entry.name) versions) ≡ entry.versions) names.arrays

-- these are the pages of that version
pub record IsPagesOf (pages : VersionPages) (v : MadeVersion) : Type 0 where
  pub name : pages.name ≡ v.name
  pub version : pages.version ≡ v.version

-- a change that makes a version comes with it, and no other does. Its directory is this one
abbrev pub IsMadeWith : Change → Option Made → Directory → Type 0
IsMadeWith (Store name schema plan) (Some made) directory = made.directory ≡ directory
IsMadeWith (Store name schema plan) None directory = ⊥
IsMadeWith (Insert name schema plan) (Some made) directory = made.directory ≡ directory
IsMadeWith (Insert name schema plan) None directory = ⊥
IsMadeWith change (Some made) directory = ⊥
IsMadeWith change None directory = Unit {0}
