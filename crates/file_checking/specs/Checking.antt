-- Which payloads of a file pass.
use Rattle.std.specs.Prelude.{◌≡◌, ℕ, true, List, length, map, Ok}
use Rattle.std.specs.List.{AllByRecursion, AllZip}
use Rattle.cell_values.specs.declared.datum.Row.{Row}
use Rattle.cell_values.specs.declared.schema.Schema.{Schema}
use Rattle.cell_values.specs.Schemas.{IsValid}
use Rattle.array_rows.specs.Arrays.{AreRowsOf}
use Rattle.array_geom.specs.declared.chunk.Chunk.{Chunk}
use Rattle.array_geom.specs.Geometry.{has_core}
use Rattle.logical_plan.specs.Typing.{AreSound}
use Rattle.page_chain.specs.Pages.{page_size, blob}
use Rattle.chunk_map.specs.declared.directory.DirEntry.{DirEntry}
use Rattle.chunk_map.specs.declared.directory.Directory.{Directory}
use Rattle.chunk_map.specs.Entries.{AreRising}
use Rattle.backup_format.specs.Laws.{AreBytes}
use Rattle.backup_format.specs.Pieces.{Piece}
use Rattle.backup_format.specs.Table.{chunk_in, fit_together}
use Rattle.plan_changes.specs.Databases.{Database}
use Rattle.plan_changes.specs.Stored.{AreStored, IsDatabase}
use Rattle.version_catalog.specs.Catalogs.{names_in}
use Rattle.version_catalog.specs.declared.rules.catalog.CatalogArray.{CatalogArray}
use Rattle.file_meaning.specs.Opening.{opened}
use Rattle.file_meaning.specs.Standing.{HoldsVersion, HoldsDatabase, Stands}
use Rattle.file_meaning.specs.declared.meaning.found.Found.{Found}

-- the pieces that a directory lists in a file
abbrev pub piece_in : List ℕ → DirEntry → Piece
piece_in file entry = record { at = entry.at.items; payload = blob page_size file entry.pages entry.length }

abbrev pub pieces_in : List ℕ → Directory → List Piece
pieces_in file directory = map (piece_in file) directory.entries

-- a number whose core holds a coordinate, and bytes that are its chunk's
pub record IsRead (schema : Schema) (piece : Piece) : Type 0 where
  pub core : has_core schema.dimensions piece.at ≡ true
  pub chunk : Chunk
  pub read : chunk_in schema piece.at piece.payload ≡ Ok chunk

-- each payload is read, and no overlap is wrong
pub record Passes (schema : Schema) (pieces : List Piece) : Type 0 where
  pub read : AllByRecursion (IsRead schema) pieces
  pub fit : fit_together schema pieces ≡ true

abbrev pub AreOfBytes : List Piece → Type 0
AreOfBytes = AllByRecursion (λ (p : Piece). AreBytes p.payload)

-- a version of a file, as it stands for rows
pub record HoldsRowsOf (file : List ℕ) (schema : Schema) (directory : Directory) (rows : List Row) : Type 0 where
  pub are : AreRowsOf schema rows
  pub sound : AreSound schema rows
  pub holds : HoldsVersion file schema directory rows

-- WHAT PASSES holds the rows of its cores
abbrev pub CheckedVersionsHold : Type 0
CheckedVersionsHold = (file : List ℕ) (schema : Schema) (directory : Directory) → IsValid schema → AreRising directory.entries → AreOfBytes (pieces_in file directory)
    → Passes schema (pieces_in file directory) → (rows : List Row) × HoldsRowsOf file schema directory rows

-- and what holds rows passes
abbrev pub HeldVersionsCheck : Type 0
HeldVersionsCheck = (file : List ℕ) (schema : Schema) (directory : Directory) (rows : List Row) → AreRising directory.entries → AreOfBytes (pieces_in file directory)
    → AllByRecursion (λ (entry : DirEntry). length entry.at.items ≡ length schema.dimensions) directory.entries → HoldsRowsOf file schema directory rows → Passes schema (pieces_in file directory)

-- ---- a file

pub record PassesVersion (file : List ℕ) (schema : Schema) (directory : Directory) : Type 0 where
  pub rising : AreRising directory.entries
  pub bytes : AreOfBytes (pieces_in file directory)
  pub passes : Passes schema (pieces_in file directory)

abbrev pub PassVersions : List ℕ → CatalogArray → List Directory → Type 0
PassVersions file array row = AllZip (λ (number : ℕ) (directory : Directory). PassesVersion file array.entry.schema directory) array.entry.versions row

-- what was found: a catalogue that the rules allow, and a directory whose payloads pass for each of its versions
pub record PassesFound (file : List ℕ) (found : Found) : Type 0 where
  pub names : AreStored (names_in found.catalog)
  pub versions : AllZip (PassVersions file) found.catalog.arrays found.directories

-- a database that a file holds as what was found
pub record HasDatabase (file : List ℕ) (found : Found) : Type 0 where
  pub db : Database
  pub database : IsDatabase db
  pub holds : HoldsDatabase file db found

-- A FILE THAT PASSES stands for a database
abbrev pub CheckedFilesStand : Type 0
CheckedFilesStand = (file : List ℕ) (found : Found) → opened file ≡ Ok found → PassesFound file found → (db : Database) × Stands file db

-- directories of rising numbers of so many dimensions, and payloads of bytes
pub record AreDirectories (file : List ℕ) (found : Found) : Type 0 where
  pub rising : AllByRecursion (AllByRecursion (λ directory. AreRising directory.entries)) found.directories
  pub bytes : AllByRecursion (AllByRecursion (λ (directory : Directory). AreOfBytes (pieces_in file directory))) found.directories
  pub long : AllZip (λ (array : CatalogArray) (row : List Directory). AllByRecursion (λ (directory : Directory).
      AllByRecursion (λ (entry : DirEntry). length entry.at.items ≡ length array.entry.schema.dimensions) directory.entries) row) found.catalog.arrays found.directories

-- and a file that stands for a database passes
abbrev pub StandingFilesPass : Type 0
StandingFilesPass = (file : List ℕ) (found : Found) (db : Database) → opened file ≡ Ok found → Stands file db → AreDirectories file found → PassesFound file found
