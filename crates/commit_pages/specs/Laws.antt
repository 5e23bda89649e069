-- What is known of the pages of commits.
use Rattle.std.specs.Prelude.{◌≡◌, ◌≤◌, ◌⊎◌, ℕ, ◌+◌, Bool, true, false, ◌||◌, List, [], ◌∷◌, ◌++◌, length, Option, None, Some, IfSome}
use Rattle.std.specs.List.{AllByRecursion}
use Rattle.std.specs.Option.{is_some}
use Rattle.cell_values.specs.declared.datum.Row.{Row}
use Rattle.cell_values.specs.declared.schema.Schema.{Schema}
use Rattle.array_rows.specs.Arrays.{AreRowsOf}
use Rattle.array_geom.specs.declared.chunk.Changed.{Changed}
use Rattle.array_geom.specs.Geometry.{ChunkNumber, has_core, overlaps}
use Rattle.array_geom.specs.Link.{IsPart, is_listed, has_cell}
use Rattle.plan_changes.specs.Names.{Names}
use Rattle.chunk_map.specs.declared.directory.DirEntry.{DirEntry}
use Rattle.chunk_map.specs.declared.directory.Directory.{Directory}
use Rattle.chunk_map.specs.Entries.{AreRising, entry_at, numbers}
use Rattle.chunk_map.specs.Replacing.{AreReplaced}
use Rattle.chunk_map.specs.Spelling.{spelling as directory_spelling}
use Rattle.page_chain.specs.Pages.{page_size, pages_for, first_past, HoldsBlob}
use Rattle.plan_changes.specs.declared.change.Change.{Change}
use Rattle.plan_changes.specs.Changes.{name_of}
use Rattle.plan_changes.specs.Databases.{Database, names_of, new_rows, newest_rows}
use Rattle.plan_changes.specs.Stored.{IsDatabase}
use Rattle.plan_changes.specs.Typed.{IsTypedFor}
use Rattle.file_meaning.specs.BlobAt.{BlobAt}
use Rattle.file_meaning.specs.Catalog.{Catalog}
use Rattle.version_reaper.specs.PageSets.{holds}
use Rattle.event_core.specs.declared.state.VersionPages.{VersionPages}
use Rattle.event_core.specs.Allowed.{are_different}
use Rattle.event_core.specs.Apart.{makes_version}
use Rattle.event_core.specs.Bases.{records_at}
use Rattle.event_core.specs.History.{History}
use Rattle.event_core.specs.Pages.{fresh_of, is_newest}
use Rattle.file_meaning.specs.Standing.{HoldsPart, HoldsVersion}
use Rattle.commit_pages.specs.Costs.{catalog_of, has_log_room, cost_from}
use Rattle.commit_pages.specs.Lengths.{AreAlikeCatalogs, AreListed, HasItsLength}
use Rattle.page_file.specs.Commits.{pages_of, HoldsBlobs}
use Rattle.commit_pages.specs.declared.pages.version.NewVersion.{NewVersion}
use Rattle.commit_pages.specs.declared.pages.written.Written.{Written}
use Rattle.commit_pages.specs.Versions.{draft, draft_of, settled, entries_of, directory_of, new_version, version_needs, HasRisingNumbers, IsWritten}
use Rattle.commit_pages.specs.Changes.{ComesWith, AreValid, IsChangeOf}
use Rattle.commit_pages.specs.Commits.{record_needs, base_needs, record_laid, base_laid}

-- ---- the directory

-- a store's directory has the written chunks' entries, and no other
abbrev pub StoresListTheirs : Type 0
StoresListTheirs = (written : Written) (newest : Directory) → written.whole ≡ true → (directory_of written newest).entries ≡ entries_of written

-- an insert's has them in the places of those of the newest version
abbrev pub InsertsReplace : Type 0
InsertsReplace = (written : Written) (newest : Directory) → HasRisingNumbers written → AreRising newest.entries → written.whole ≡ false
    → AreReplaced (entries_of written) newest.entries (directory_of written newest).entries

-- ---- costs

-- the directory of the newest version lists just the chunks that hold a cell, each with its payload's length
pub record IsOfRows (schema : Schema) (rows : List Row) (directory : Directory) : Type 0 where
  pub listed : AreListed schema.dimensions (has_cell schema.dimensions rows) (numbers directory.entries)
  pub lengths : AllByRecursion (HasItsLength schema rows) directory.entries

-- where chunks come for a part of a version, the directory is that of the newest one
abbrev pub IsNewest : Database → Change → Option Changed → Directory → Type 0
IsNewest db change changed newest = IfSome changed (λ some. some.whole ≡ false
    → AreRowsOf some.schema (newest_rows db (name_of change)) × IsOfRows some.schema (newest_rows db (name_of change)) newest)

-- what is handed to a commit is the change's over a database: its catalogue, the chunks that are written, and the newest version's directory
pub record IsOver (db : Database) (change : Change) (catalog : Catalog) (changed : Option Changed) (newest : Directory) : Type 0 where
  pub database : IsDatabase db
  pub typed : IsTypedFor (names_of db) change
  pub alike : AreAlikeCatalogs catalog (catalog_of db)
  pub comes : ComesWith change changed
  pub valid : IfSome changed AreValid
  pub chunks : IfSome changed (IsChangeOf db change)
  pub before : IsNewest db change changed newest

-- a commit of a record takes as many pages as the change costs, where the log has room for one, and a commit of a new base, with the log
-- page, where it has none
abbrev pub RecordsCostTheirPages : Type 0
RecordsCostTheirPages = (records : Option ℕ) (db : Database) (h : History) (change : Change) (catalog : Catalog) (changed : Option Changed)
    (newest : Directory) (birth : ℕ)
    → IsOver db change catalog changed newest → has_log_room (records_at records h) ≡ true
    → record_needs catalog newest change (draft_of birth changed) ≡ cost_from records db h change

abbrev pub BasesCostTheirPages : Type 0
BasesCostTheirPages = (records : Option ℕ) (db : Database) (h : History) (change : Change) (catalog : Catalog) (changed : Option Changed)
    (newest : Directory) (birth : ℕ)
    → IsOver db change catalog changed newest → has_log_room (records_at records h) ≡ false
    → base_needs catalog newest change (draft_of birth changed) + 1 ≡ cost_from records db h change

-- ---- payloads

-- the core of an entry's chunk holds a coordinate, the commit of this sequence wrote it, and the file has its pages, in which it is its part of
-- the rows
pub record IsThere (file : List ℕ) (schema : Schema) (rows : List Row) (birth : ℕ) (entry : DirEntry) : Type 0 where
  pub core : has_core schema.dimensions entry.at.items ≡ true
  pub written : entry.birth ≡ birth
  pub pages : first_past page_size file entry.pages ≡ None
  pub part : HoldsPart file schema rows entry

-- once a file has the bytes of the payloads in their pages, each entry that is written is there
abbrev pub WrittenAreThere : Type 0
WrittenAreThere = (file : List ℕ) (changed : Changed) (rows : List Row) (birth : ℕ) (pages : List ℕ) → AreValid changed
    → AllByRecursion (IsPart changed.schema.dimensions (overlaps changed.schema.dimensions) rows) changed.chunks
    → length (pages_of (draft birth changed).payloads) ≤ length pages → HoldsBlobs file (settled pages (draft birth changed)).payloads
    → AllByRecursion (IsThere file changed.schema rows birth) (entries_of (settled pages (draft birth changed)))

-- ---- the new version in a file

-- An entry that is written is there in the new file. Any other is one of the newest version's, and in the old file it is its part of the new
-- rows too.
abbrev pub IsHeld : List ℕ → List ℕ → Schema → List Row → ℕ → List DirEntry → DirEntry → Type 0
IsHeld old new schema rows birth before entry =
    IsThere new schema rows birth entry ⊎ ((entry_at before entry.at.items ≡ Some entry) × HoldsPart old schema rows entry)

-- the new file has the directory's bytes where it lies, and it lists a chunk just where its core holds a row
pub record HoldsNew (old new : List ℕ) (schema : Schema) (rows : List Row) (birth : ℕ) (before : List DirEntry) (directory : Directory)
    (at : BlobAt) : Type 0 where
  pub spelled : HoldsBlob page_size new at.pages (directory_spelling directory)
  pub size : at.length ≡ length (directory_spelling directory)
  pub enough : length at.pages ≡ pages_for page_size at.length
  pub listed : (k : ChunkNumber) → length k ≡ length schema.dimensions → is_listed k (numbers directory.entries) ≡ has_cell schema.dimensions rows k
  pub entries : AllByRecursion (IsHeld old new schema rows birth before) directory.entries

abbrev pub HoldsVersionOf : List ℕ → List ℕ → Schema → List Row → ℕ → List DirEntry → NewVersion → Type 0
HoldsVersionOf old new schema rows birth before version =
    IfSome version.directory (λ directory. IfSome version.at (HoldsNew old new schema rows birth before directory))

-- where the old file holds the newest version, and the new one has the bytes of the blobs in their pages, the new one holds the new version
abbrev pub VersionsAreHeld : Type 0
VersionsAreHeld = (old new : List ℕ) (db : Database) (change : Change) (catalog : Catalog) (changed : Changed) (newest : Directory) (birth : ℕ)
    (pages : List ℕ) → IsOver db change catalog (Some changed) newest
    → (changed.whole ≡ false → HoldsVersion old changed.schema newest (newest_rows db (name_of change)))
    → version_needs (draft_of birth (Some changed)) newest ≤ length pages
    → HoldsBlobs new (new_version pages (draft_of birth (Some changed)) newest).blobs
    → HoldsVersionOf old new changed.schema (new_rows db change) birth newest.entries (new_version pages (draft_of birth (Some changed)) newest)

-- ---- fresh pages

-- a page that the newest version or the catalogue before a commit has
abbrev pub is_known : Names → List VersionPages → List ℕ → Change → ℕ → Bool
is_known names versions catalogue change page = is_newest names versions (name_of change) page || holds catalogue page

-- what is handed to a commit is that of a core: the newest version's payloads lie in its pages, and the given pages are none that are known
pub record IsApart (known : ℕ → Bool) (newest : Directory) (pages : List ℕ) : Type 0 where
  pub shared : AllByRecursion (λ entry. AllByRecursion (λ page. known page ≡ true) entry.pages) newest.entries
  pub given : AllByRecursion (λ page. known page ≡ false) pages

-- the same pages, in whichever order
pub record AreSamePages (a b : List ℕ) : Type 0 where
  pub held : (page : ℕ) → holds a page ≡ holds b page
  pub many : length a ≡ length b
  pub different : are_different b ≡ true → are_different a ≡ true

-- THE FRESH PAGES of a commit are just those given
abbrev pub RecordsUseTheGiven : Type 0
RecordsUseTheGiven = (names : Names) (versions : List VersionPages) (catalog : Catalog) (catalogue : List ℕ) (newest : Directory)
    (change : Change) (written : Option Written) (pages : List ℕ) → IsApart (is_known names versions catalogue change) newest pages
    → IfSome written IsWritten → is_some written ≡ makes_version change
    → length pages ≡ record_needs catalog newest change written
    → AreSamePages (fresh_of names versions catalogue change (record_laid catalog catalogue newest change written pages).used) pages

abbrev pub BasesUseTheGiven : Type 0
BasesUseTheGiven = (names : Names) (versions : List VersionPages) (catalog : Catalog) (catalogue : List ℕ) (newest : Directory)
    (change : Change) (written : Option Written) (pages : List ℕ) (log : ℕ)
    → IsApart (is_known names versions catalogue change) newest (pages ++ log ∷ []) → IfSome written IsWritten
    → length pages ≡ base_needs catalog newest change written
    → AreSamePages (fresh_of names versions catalogue change (base_laid catalog newest change written pages log).used) (pages ++ log ∷ [])
