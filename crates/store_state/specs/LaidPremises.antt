-- What a commit over a file is made of, and what is laid of it.
use Rattle.std.specs.Prelude.{◌≡◌, ℕ, ◌+◌, ◌<◌, ◌^◌, false, List, [], ◌∷◌, ◌++◌, length, Option, Some, None, IfSome, IsTrue}
use Rattle.std.specs.List.{AllByRecursion}
use Rattle.cell_values.specs.declared.schema.Schema.{Schema}
use Rattle.array_geom.specs.declared.chunk.Changed.{Changed}
use Rattle.array_geom.specs.Geometry.{has_core}
use Rattle.page_chain.specs.Links.{AreFree}
use Rattle.chunk_map.specs.declared.directory.Directory.{Directory}
use Rattle.chunk_map.specs.Spelling.{IsDirectory}
use Rattle.file_meaning.specs.Change.{Change}
use Rattle.file_meaning.specs.Changes.{name_of}
use Rattle.file_meaning.specs.Databases.{Database}
use Rattle.file_meaning.specs.BlobAt.{BlobAt}
use Rattle.file_meaning.specs.Catalogs.{IsCatalog, names_in}
use Rattle.file_meaning.specs.Slots.{Slots}
use Rattle.file_meaning.specs.Opening.{pages_of, sequence_of, version_pages}
use Rattle.file_meaning.specs.declared.meaning.found.Found.{Found}
use Rattle.file_meaning.specs.Next.{Made}
use Rattle.file_meaning.specs.Premises.{StandsBy, MayChange, row_of}
use Rattle.commit_pages.specs.declared.pages.laid.Laid.{Laid}
use Rattle.commit_pages.specs.Commits.{record_needs, base_needs, record_laid, base_laid}
use Rattle.commit_pages.specs.Laws.{IsOver}
use Rattle.commit_pages.specs.Versions.{draft_of}

-- ---- the newest version

-- the last of some directories; one without entries where there is none
abbrev pub last_of_row : List Directory → Directory
last_of_row [] = record { entries = [] }
last_of_row (directory ∷ []) = directory
last_of_row (directory ∷ next ∷ row) = last_of_row (next ∷ row)

-- the directory of the newest version of the array that a change is about
abbrev pub newest_in : Found → Change → Directory
newest_in found change = last_of_row (row_of (name_of change) (names_in found.catalog).arrays found.directories)

-- this is it, it has a spelling, and the core of each chunk that it lists holds a coordinate
pub record IsNewestIn (found : Found) (change : Change) (schema : Schema) (newest : Directory) : Type 0 where
  pub is : newest ≡ newest_in found change
  pub rules : IsDirectory (length schema.dimensions) newest
  pub cores : AllByRecursion (λ entry. IsTrue (has_core schema.dimensions entry.at.items)) newest.entries

-- ---- the commit

-- WHAT IS COMMITTED over a file that stands for a database by its slots: a change that the database allows, the chunks that come with it,
-- and, where these are a part of a version, the directory of the newest one
pub record IsCommit (file : List ℕ) (slots : Slots) (db : Database) (found : Found) (change : Change) (changed : Option Changed)
    (newest : Directory) : Type 0 where
  pub stands : StandsBy file slots db found
  pub may : MayChange db change
  pub over : IsOver db change found.catalog changed newest
  pub catalog : IsCatalog found.catalog
  pub part : IfSome changed (λ some. some.whole ≡ false → IsNewestIn found change some.schema newest)
  pub sequence : sequence_of slots + 1 < 2 ^ 64

-- a record of it, laid in as many pages as it needs, which are neither the log page nor any that was found
pub record IsLaidRecord (slots : Slots) (found : Found) (change : Change) (changed : Option Changed) (newest : Directory)
    (catalogue pages : List ℕ) (laid : Laid) : Type 0 where
  pub enough : length pages ≡ record_needs found.catalog newest change (draft_of (sequence_of slots + 1) changed)
  pub few : length pages < 2 ^ 32
  pub free : AreFree (slots.current.root.log ∷ pages_of found) pages
  pub is : laid ≡ record_laid found.catalog catalogue newest change (draft_of (sequence_of slots + 1) changed) pages

-- a new base of it, laid in as many pages as it needs, with a page for the log. None of them was found
pub record IsLaidBase (slots : Slots) (found : Found) (change : Change) (changed : Option Changed) (newest : Directory)
    (pages : List ℕ) (log : ℕ) (laid : Laid) : Type 0 where
  pub enough : length pages ≡ base_needs found.catalog newest change (draft_of (sequence_of slots + 1) changed)
  pub few : length pages < 2 ^ 32
  pub free : AreFree (pages_of found) (pages ++ log ∷ [])
  pub is : laid ≡ base_laid found.catalog newest change (draft_of (sequence_of slots + 1) changed) pages log

-- ---- the version

-- the version that is laid: its directory, and where it lies
abbrev pub made_by : Option BlobAt → Option Directory → Option Made
made_by None directory = None
made_by (Some at) None = None
made_by (Some at) (Some directory) = Some (record { at = at; directory = directory })

abbrev pub made_of : Laid → Option Made
made_of laid = made_by laid.at laid.directory

-- its pages: its directory's, and all its payloads'
abbrev pub pages_made : Option Made → List ℕ
pages_made None = []
pages_made (Some made) = version_pages made.at made.directory
