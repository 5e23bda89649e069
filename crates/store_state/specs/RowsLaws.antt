-- What a change makes of the directories and the pages that are found of a file.
use Rattle.std.specs.Prelude.{◌≡◌, ℕ, List, length, map, Option, Some, IsTrue}
use Rattle.std.specs.List.{AllByRecursion, AllZip}
use Rattle.array_rows.specs.Boxes.{by_pairs}
use Rattle.chunk_map.specs.declared.directory.Directory.{Directory}
use Rattle.file_meaning.specs.Change.{Change}
use Rattle.file_meaning.specs.Allowed.{names_allow}
use Rattle.file_meaning.specs.Changes.{names_after, newest_of}
use Rattle.file_meaning.specs.Stored.{AreStored}
use Rattle.file_meaning.specs.Catalog.{Catalog}
use Rattle.file_meaning.specs.Catalogs.{IsCatalog, names_in}
use Rattle.file_meaning.specs.Changed.{after_change}
use Rattle.store_versions.specs.VersionPages.{VersionPages}
use Rattle.store_versions.specs.History.{pages_after}
use Rattle.store_versions.specs.Pages.{has_page}
use Rattle.file_meaning.specs.Opening.{all_of, row_pages}
use Rattle.file_meaning.specs.Next.{Made, Rows, blob_of, rows_after}
use Rattle.store_state.specs.LaidPremises.{last_of_row, pages_made}
use Rattle.file_meaning.specs.Premises.{row_of}
use Rattle.store_versions.specs.Rows.{first_rows}
use Rattle.store_versions.specs.Seen.{version_of}
use Rattle.store_versions.specs.Versions.{MadeVersion, HaveDirectories, directory_of, versions_after}
use Rattle.store_state.specs.Rows.{directories_in, pages_in, pages_of_rows, AreInOrder, IsPagesOf, IsMadeWith}

-- the versions that stand, each with its directory, in the order of their arrays' numbers
pub record StandInOrder (catalog : Catalog) (versions : List MadeVersion) : Type 0 where
  pub stored : AreStored (names_in catalog)
  pub have : HaveDirectories (names_in catalog) versions
  pub order : AreInOrder (names_in catalog) versions

-- a change makes of the directories in a catalogue what it makes of the versions
abbrev pub DirectoriesFollow : Type 0
DirectoriesFollow = (catalog : Catalog) (versions : List MadeVersion) (change : Change) (made : Option Made) (directory : Directory)
    → StandInOrder catalog versions → IsTrue (names_allow (names_in catalog) change) → IsMadeWith change made directory
    → directories_in (after_change catalog change (blob_of made)) (versions_after (names_in catalog) change directory versions)
    ≡ rows_after (names_in catalog).arrays change made (directories_in catalog versions)

-- after it they stand in order
abbrev pub OrdersFollow : Type 0
OrdersFollow = (catalog : Catalog) (versions : List MadeVersion) (change : Change) (directory : Directory)
    → StandInOrder catalog versions → IsTrue (names_allow (names_in catalog) change)
    → AreInOrder (names_after (names_in catalog) change) (versions_after (names_in catalog) change directory versions)

-- where the pages of the directories are those of the versions, they are so after a change whose version has its own pages
abbrev pub PagesFollow : Type 0
PagesFollow = (catalog : Catalog) (versions : List MadeVersion) (pages : List VersionPages) (change : Change) (made : Option Made) (directory : Directory)
    → IsCatalog catalog → StandInOrder catalog versions → AllZip IsPagesOf pages versions
    → IsTrue (names_allow (names_in catalog) change) → IsMadeWith change made directory
    → pages_of_rows catalog (directories_in catalog versions) ≡ pages_in catalog pages
    → pages_of_rows (after_change catalog change (blob_of made))
    (directories_in (after_change catalog change (blob_of made)) (versions_after (names_in catalog) change directory versions))
    ≡ pages_in (after_change catalog change (blob_of made)) (pages_after (names_in catalog) change (pages_made made) pages)

-- where the pages of directories are those of versions, each page that is found of them is one of a version's
abbrev pub FoundPagesAreOfVersions : Type 0
FoundPagesAreOfVersions = (catalog : Catalog) (rows : Rows) (pages : List VersionPages) → pages_of_rows catalog rows ≡ pages_in catalog pages
    → AllByRecursion (λ page. IsTrue (has_page pages page)) (all_of (by_pairs row_pages catalog.arrays rows))

-- ---- at the opening

-- where each array has as many directories as versions, they are those of the versions, which stand in order
pub record AreFirst (catalog : Catalog) (rows : Rows) : Type 0 where
  pub directories : directories_in catalog (map version_of (first_rows (names_in catalog).arrays rows)) ≡ rows
  pub order : AreInOrder (names_in catalog) (map version_of (first_rows (names_in catalog).arrays rows))

abbrev pub FirstRowsAreInOrder : Type 0
FirstRowsAreInOrder = (catalog : Catalog) (rows : Rows) → AreStored (names_in catalog)
    → map (λ entry. length entry.versions) (names_in catalog).arrays ≡ map (λ row. length row) rows → AreFirst catalog rows

-- ---- the newest version

-- the last of an array's directories is that of its newest version
abbrev pub NewestAreLast : Type 0
NewestAreLast = (catalog : Catalog) (versions : List MadeVersion) (name : List ℕ) (newest : Directory) → StandInOrder catalog versions
    → directory_of name (newest_of (names_in catalog).arrays name) versions ≡ Some newest
    → last_of_row (row_of name (names_in catalog).arrays (directories_in catalog versions)) ≡ newest
