-- What costs the same whichever pages are used, whichever commits wrote them, and in whichever order chunks are listed.
use Rattle.std.specs.Prelude.{◌≡◌, Bool, ◌&&◌, List, length, Option, Some, None}
use Rattle.std.specs.List.{AllByRecursion, AllZip}
use Rattle.cell_values.specs.declared.datum.Row.{Row}
use Rattle.cell_values.specs.declared.schema.Dimension.{Dimension}
use Rattle.cell_values.specs.declared.schema.Schema.{Schema}
use Rattle.array_rows.specs.Arrays.{AreRowsOf}
use Rattle.array_rows.specs.Boxes.{within}
use Rattle.chunk_rle.specs.Geometry.{ChunkNumber, frame, overlaps}
use Rattle.chunk_rle.specs.Link.{NumbersRise, is_listed, has_cell, is_not_empty}
use Rattle.file_items.specs.Pages.{pages_needed}
use Rattle.chunk_map.specs.declared.directory.DirEntry.{DirEntry}
use Rattle.chunk_map.specs.Entries.{numbers}
use Rattle.chunk_map.specs.Spelling.{spelling as directory_spelling}
use Rattle.event_core.specs.Change.{Change}
use Rattle.event_core.specs.Databases.{Database, names_of, after}
use Rattle.event_core.specs.Stored.{IsDatabase}
use Rattle.event_core.specs.Typed.{IsTypedFor}
use Rattle.file_meaning.specs.BlobAt.{BlobAt}
use Rattle.file_meaning.specs.CatalogArray.{CatalogArray}
use Rattle.file_meaning.specs.Catalog.{Catalog}
use Rattle.file_meaning.specs.Catalogs.{IsBlob}
use Rattle.file_meaning.specs.Spelling.{spelling}
use Rattle.file_meaning.specs.Changed.{after_change, record_for}
use Rattle.commit_pages.specs.Costs.{numbers_of, payload_length, payload_pages, touched, directory_of, directory_for}
use Rattle.commit_pages.specs.Costs.{catalog_of, chain_pages, record_length, record_pages, catalogue_pages}

-- ---- chunks

-- the rising numbers of just those chunks of so many dimensions that a test chooses
pub record AreListed (dims : List Dimension) (chosen : ChunkNumber → Bool) (ks : List ChunkNumber) : Type 0 where
  pub rising : NumbersRise ks
  pub sized : AllByRecursion (λ k. length k ≡ length dims) ks
  pub listed : (k : ChunkNumber) → length k ≡ length dims → is_listed k ks ≡ chosen k

-- whether the frame of a chunk holds a row
abbrev pub meets : List Dimension → List Row → ChunkNumber → Bool
meets dims input k = is_not_empty (within (frame dims (overlaps dims) k) input)

-- the payloads of a version take as many pages in whichever order its chunks are listed
abbrev pub StoredPagesAreTold : Type 0
StoredPagesAreTold = (schema : Schema) (rows : List Row) (ks : List ChunkNumber) → AreRowsOf schema rows
    → AreListed schema.dimensions (has_cell schema.dimensions rows) ks
    → payload_pages schema rows ks ≡ payload_pages schema rows (numbers_of schema.dimensions rows)

-- so do those that an insert writes
abbrev pub WrittenPagesAreTold : Type 0
WrittenPagesAreTold = (schema : Schema) (rows input : List Row) (ks : List ChunkNumber) → AreRowsOf schema rows
    → AreListed schema.dimensions (λ k. has_cell schema.dimensions rows k && meets schema.dimensions input k) ks
    → payload_pages schema rows ks ≡ payload_pages schema rows (touched schema.dimensions input (numbers_of schema.dimensions rows))

-- ---- directories

-- an entry of its payload's length, in as many pages as that needs
pub record HasItsLength (schema : Schema) (rows : List Row) (entry : DirEntry) : Type 0 where
  pub bytes : entry.length ≡ payload_length schema rows entry.at.items
  pub pages : length entry.pages ≡ pages_needed entry.length

-- blobs of one length, in as many pages
pub record AreAlike (a b : BlobAt) : Type 0 where
  pub bytes : a.length ≡ b.length
  pub pages : length a.pages ≡ length b.pages

-- the bytes of a directory of a version, wherever its payloads lie and whoever wrote them, are as many as its cost has it
abbrev pub DirectoriesAreAlike : Type 0
DirectoriesAreAlike = (schema : Schema) (rows : List Row) (entries : List DirEntry) (at : BlobAt) → AreRowsOf schema rows
    → AreListed schema.dimensions (has_cell schema.dimensions rows) (numbers entries)
    → AllByRecursion (HasItsLength schema rows) entries → IsBlob at → at.length ≡ length (directory_spelling (record { entries = entries }))
    → AreAlike at (directory_of schema rows)

-- ---- catalogues

-- arrays of one entry whose directories are alike
pub record AreAlikeArrays (a b : CatalogArray) : Type 0 where
  pub entry : a.entry ≡ b.entry
  pub directories : AllZip AreAlike a.directories b.directories

abbrev pub AreAlikeCatalogs : Catalog → Catalog → Type 0
AreAlikeCatalogs a b = AllZip AreAlikeArrays a.arrays b.arrays

-- both directories are alike, or there is none
abbrev pub AreBothAlike : Option BlobAt → Option BlobAt → Type 0
AreBothAlike None None = Unit {0}
AreBothAlike None (Some b) = ⊥
AreBothAlike (Some a) None = ⊥
AreBothAlike (Some a) (Some b) = AreAlike a b

-- catalogues that are alike have as many bytes, and so have the records of a change
abbrev pub CatalogsReadNoPage : Type 0
CatalogsReadNoPage = (a b : Catalog) → AreAlikeCatalogs a b → length (spelling a) ≡ length (spelling b)

abbrev pub RecordsReadNoPage : Type 0
RecordsReadNoPage = (a b : Catalog) (change : Change) (d e : Option BlobAt) → AreAlikeCatalogs a b → AreBothAlike d e
    → record_length (record_for a change d) ≡ record_length (record_for b change e)

-- after a change they are alike again
abbrev pub ChangesKeepAlike : Type 0
ChangesKeepAlike = (a b : Catalog) (change : Change) (d e : Option BlobAt) → AreAlikeCatalogs a b → AreBothAlike d e
    → AreAlikeCatalogs (after_change a change d) (after_change b change e)

-- the catalogue of the next database is that after the change
abbrev pub CatalogsOfDatabases : Type 0
CatalogsOfDatabases = (db : Database) (change : Change) → IsDatabase db → IsTypedFor (names_of db) change
    → catalog_of (after db change) ≡ after_change (catalog_of db) change (directory_for db change)

-- so the pages of a record, or of the next catalogue, are told by any catalogue that is like the database's, with any directory that
-- is like that of the new version
abbrev pub RecordPagesAreTold : Type 0
RecordPagesAreTold = (db : Database) (change : Change) (catalog : Catalog) (directory : Option BlobAt) → AreAlikeCatalogs catalog (catalog_of db)
    → AreBothAlike directory (directory_for db change)
    → record_pages db change ≡ chain_pages (record_length (record_for catalog change directory))

abbrev pub CataloguePagesAreTold : Type 0
CataloguePagesAreTold = (db : Database) (change : Change) (catalog : Catalog) (directory : Option BlobAt) → IsDatabase db → IsTypedFor (names_of db) change
    → AreAlikeCatalogs catalog (catalog_of db) → AreBothAlike directory (directory_for db change)
    → catalogue_pages db change ≡ chain_pages (length (spelling (after_change catalog change directory)))
