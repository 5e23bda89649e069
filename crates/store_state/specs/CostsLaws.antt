-- What is handed to a commit is the change's, wherever a file stands for the database by its slots.
use Rattle.std.specs.Prelude.{◌≡◌, ℕ, false, List, Option, Some, IfSome}
use Rattle.array_rows.specs.Arrays.{AreRowsOf}
use Rattle.array_geom.specs.declared.chunk.Changed.{Changed}
use Rattle.chunk_map.specs.declared.directory.Directory.{Directory}
use Rattle.logical_plan.specs.declared.names.NameEntry.{NameEntry}
use Rattle.plan_changes.specs.declared.change.Change.{Change}
use Rattle.plan_changes.specs.Changes.{entry_named, name_of}
use Rattle.plan_changes.specs.Databases.{Database, names_of, newest_rows}
use Rattle.plan_changes.specs.Typed.{IsTypedFor}
use Rattle.version_catalog.specs.Catalogs.{IsCatalog}
use Rattle.file_meaning.specs.Slots.{Slots}
use Rattle.file_meaning.specs.declared.meaning.found.Found.{Found}
use Rattle.file_meaning.specs.Premises.{StandsBy}
use Rattle.commit_pages.specs.Costs.{catalog_of}
use Rattle.commit_pages.specs.Lengths.{AreAlikeCatalogs}
use Rattle.commit_pages.specs.Changes.{ComesWith, AreValid, IsChangeOf}
use Rattle.commit_pages.specs.Laws.{IsOfRows, IsOver}
use Rattle.store_state.specs.LaidPremises.{IsNewestIn, newest_in}

-- the catalogue that is found is like the database's: each directory in it has as many bytes, and as many pages
abbrev pub FoundCatalogsAreAlike : Type 0
FoundCatalogsAreAlike = (file : List ℕ) (slots : Slots) (db : Database) (found : Found) → StandsBy file slots db found → IsCatalog found.catalog
    → AreAlikeCatalogs found.catalog (catalog_of db)

-- of an array that stands, the directory that is found for the newest version lists just the chunks of its rows, each with its payload's
-- length
abbrev pub FoundDirectoriesAreOfTheirRows : Type 0
FoundDirectoriesAreOfTheirRows = (file : List ℕ) (slots : Slots) (db : Database) (found : Found) (change : Change) (array : NameEntry)
    → StandsBy file slots db found → entry_named (names_of db).arrays (name_of change) ≡ Some array
    → AreRowsOf array.schema (newest_rows db (name_of change)) × IsOfRows array.schema (newest_rows db (name_of change)) (newest_in found change)

-- SO WHAT IS FOUND, and the chunks of a typed change, are what a commit of it is handed
abbrev pub FoundFilesAreOver : Type 0
FoundFilesAreOver = (file : List ℕ) (slots : Slots) (db : Database) (found : Found) (change : Change) (changed : Option Changed) (newest : Directory)
    → StandsBy file slots db found → IsCatalog found.catalog → IsTypedFor (names_of db) change → ComesWith change changed
    → IfSome changed AreValid → IfSome changed (IsChangeOf db change)
    → IfSome changed (λ some. some.whole ≡ false → IsNewestIn found change some.schema newest)
    → IsOver db change found.catalog changed newest
