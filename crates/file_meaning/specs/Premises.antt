-- What a commit leaves of a file: the premises under which it stands for the next database.
use Rattle.std.specs.Prelude.{◌≡◌, ℕ, ◌+◌, ◌≤◌, Bool, true, false, not, if◌then◌else◌, List, [], ◌∷◌, ◌++◌, length, slice_index, Option, Some, None, Ok}
use Rattle.std.specs.List.{AllByRecursion, filter, flat_map}
use Rattle.cell_values.specs.declared.datum.Row.{Row}
use Rattle.cell_values.specs.declared.schema.Schema.{Schema}
use Rattle.chunk_map.specs.Geometry.{ChunkNumber, has_core}
use Rattle.chunk_map.specs.Link.{is_listed, has_cell}
use Rattle.page_chain.specs.Places.{IsNone, KeepsPages}
use Rattle.page_chain.specs.declared.slots.layout.logs.RecordAt.{RecordAt}
use Rattle.page_chain.specs.declared.slots.layout.roots.Root.{Root}
use Rattle.page_chain.specs.declared.slots.layout.sides.Side.{Side}
use Rattle.page_chain.specs.declared.slots.layout.sides.Format.TheVariants.{Two}
use Rattle.page_file.specs.Pages.{page_size, pages_for, first_past, HoldsBlob}
use Rattle.page_file.specs.Chains.{content_size, HoldsChain}
use Rattle.page_file.specs.Links.{AreFree}
use Rattle.chunk_map.specs.declared.directory.DirEntry.{DirEntry}
use Rattle.chunk_map.specs.declared.directory.Directory.{Directory}
use Rattle.chunk_map.specs.Entries.{numbers}
use Rattle.chunk_map.specs.Spelling.{IsDirectory, spelling}
use Rattle.plan_changes.specs.NameEntry.{NameEntry}
use Rattle.plan_changes.specs.declared.change.Change.{Change}
use Rattle.plan_changes.specs.declared.change.Change.TheVariants.{Store, Insert}
use Rattle.plan_changes.specs.Changes.{is_named, name_of}
use Rattle.plan_changes.specs.Databases.{Database, names_of, new_rows, fault_of_change}
use Rattle.plan_changes.specs.Kept.{StoresArray}
use Rattle.plan_changes.specs.Stored.{HasItsNames, IsDatabase}
use Rattle.plan_changes.specs.Typed.{IsTypedFor}
use Rattle.version_catalog.specs.declared.rules.catalog_record.CatalogRecord.{CatalogRecord}
use Rattle.version_catalog.specs.Catalogs.{IsCatalog, IsRecord, names_in}
use Rattle.version_catalog.specs.Spelling.{spell_record, spelling as catalog_spelling}
use Rattle.version_catalog.specs.Changed.{record_for, after_change}
use Rattle.file_meaning.specs.Slots.{Slots}
use Rattle.file_meaning.specs.Opening.{is_seen, found_in, pages_of, sequence_of}
use Rattle.file_meaning.specs.Standing.{HoldsPart, HoldsDatabase}
use Rattle.file_meaning.specs.declared.meaning.found.Found.{Found}
use Rattle.file_meaning.specs.Next.{Made, Rows, blob_of}

-- By these slots, whether they are the file's own or not, this is found, and it is the database's.
pub record StandsBy (file : List ℕ) (slots : Slots) (db : Database) (found : Found) : Type 0 where
  pub finds : found_in file slots ≡ Ok found
  pub database : IsDatabase db
  pub holds : HoldsDatabase file db found

-- a change that the database allows: typed over its names, of a plan that means an array, and without fault
pub record MayChange (db : Database) (change : Change) : Type 0 where
  pub named : HasItsNames change
  pub typed : IsTypedFor (names_of db) change
  pub stores : StoresArray db change
  pub sound : fault_of_change db change ≡ None

-- ---- bytes in pages

-- bytes lie in just the pages that they need
pub record HasBlob (file pages bytes : List ℕ) : Type 0 where
  pub held : HoldsBlob page_size file pages bytes
  pub enough : length pages ≡ pages_for page_size (length bytes)

-- bytes lie in a chain of just the pages that they need
pub record HasChain (file pages bytes : List ℕ) : Type 0 where
  pub held : HoldsChain page_size file pages bytes
  pub enough : length pages ≡ pages_for (content_size page_size) (length bytes)

-- ---- a new version

-- the directories of the array of a name; none where there is no such array
abbrev pub row_of : List ℕ → List NameEntry → Rows → List Directory
row_of name [] rows = []
row_of name (entry ∷ entries) [] = []
row_of name (entry ∷ entries) (row ∷ rows) = if is_named name entry then row else row_of name entries rows

-- the entries of all versions before of the array that a change is about
abbrev pub seen_before : Found → Change → List DirEntry
seen_before found change = flat_map (λ directory. directory.entries) (row_of (name_of change) (names_in found.catalog).arrays found.directories)

-- the pages of a new version: of its directory, and of the payloads that no version before has
abbrev pub made_pages : List DirEntry → Option Made → List ℕ
made_pages seen None = []
made_pages seen (Some made) = made.at.pages ++ flat_map (λ entry. entry.pages) (filter (λ entry. not (is_seen seen entry)) made.directory.entries)

-- A payload that a version before has is these rows' chunk already. The pages of any other are pages of the new file, and it is
-- these rows' chunk there.
abbrev pub HoldsEntry : List ℕ → List ℕ → Schema → List Row → DirEntry → Bool → Type 0
HoldsEntry old new schema rows entry true = HoldsPart old schema rows entry
HoldsEntry old new schema rows entry false = (first_past page_size new entry.pages ≡ None) × HoldsPart new schema rows entry

-- the core of its chunk holds a coordinate, and a commit so far wrote it
abbrev pub IsWritten : Schema → ℕ → DirEntry → Type 0
IsWritten schema sequence entry = (has_core schema.dimensions entry.at.items ≡ true) × (entry.birth ≤ sequence)

-- THE NEW VERSION lies in its pages: the one spelling of its directory, which lists a chunk just where its core holds a row, and a
-- payload for each chunk that is listed
pub record HoldsMade (old new : List ℕ) (seen : List DirEntry) (sequence : ℕ) (schema : Schema) (rows : List Row) (made : Made) : Type 0 where
  pub spelled : HasBlob new made.at.pages (spelling made.directory)
  pub size : made.at.length ≡ length (spelling made.directory)
  pub rules : IsDirectory (length schema.dimensions) made.directory
  pub each : AllByRecursion (IsWritten schema sequence) made.directory.entries
  pub listed : (k : ChunkNumber) → length k ≡ length schema.dimensions
      → is_listed k (numbers made.directory.entries) ≡ has_cell schema.dimensions rows k
  pub payloads : AllByRecursion (λ entry. HoldsEntry old new schema rows entry (is_seen seen entry)) made.directory.entries

-- A change that makes a version comes with it, and this holds of its schema, its rows and its directory. No other change does.
abbrev pub OfVersion : (Schema → List Row → Made → Type 0) → Database → Change → Option Made → Type 0
OfVersion P db (Store name schema plan) (Some made) = P schema (new_rows db (Store name schema plan)) made
OfVersion P db (Store name schema plan) None = ⊥
OfVersion P db (Insert name schema plan) (Some made) = P schema (new_rows db (Insert name schema plan)) made
OfVersion P db (Insert name schema plan) None = ⊥
OfVersion P db change (Some made) = ⊥
OfVersion P db change None = Unit {0}

-- ---- a record

-- where the record lies, and the slots with it
abbrev pub record_at : List ℕ → List ℕ → RecordAt
record_at pages bytes = record { length = length bytes; first = slice_index pages 0 }

abbrev pub slots_with : Slots → RecordAt → Slots
slots_with slots at = record { current = slots.current; records = slots.records ++ at ∷ [] }

-- THE RECORD OF A CHANGE in the new file. Of the old file the log page and other pages may be written, none of which was found;
-- the record and the new version lie in pages that differ from one another and were neither found nor the log page.
pub record HoldsRecord (written old new : List ℕ) (slots : Slots) (found : Found) (db : Database) (change : Change) (made : Option Made)
    (pages : List ℕ) (entry : CatalogRecord) : Type 0 where
  pub kept : KeepsPages (slots.current.root.log ∷ written) old new
  pub apart : AllByRecursion (IsNone written) (pages_of found)
  pub free : AreFree (slots.current.root.log ∷ pages_of found) (pages ++ made_pages (seen_before found change) made)
  pub is_its : record_for found.catalog change (blob_of made) ≡ Some entry
  pub is_record : IsRecord entry
  pub chained : HasChain new pages (spell_record entry)
  pub version : OfVersion (HoldsMade old new (seen_before found change) (sequence_of slots + 1)) db change made

-- ---- a new base

-- the root that names the chain and the log page, and the slots with it
abbrev pub root_at : ℕ → List ℕ → List ℕ → ℕ → Root
root_at sequence pages bytes log = record { sequence = sequence; length = length bytes; first = slice_index pages 0; log = log }

abbrev pub slots_of : Side → Root → Slots
slots_of side root = record { current = record { side = side; format = Two; root = root }; records = [] }

-- A NEW BASE in the new file: the catalogue after the change. Of the old file page 0 and other pages may be written, none of which
-- was found; the new log page, the chain and the new version lie in pages that differ from one another and were not found.
pub record HoldsBase (written old new : List ℕ) (slots : Slots) (found : Found) (db : Database) (change : Change) (made : Option Made)
    (pages : List ℕ) (sequence log : ℕ) : Type 0 where
  pub kept : KeepsPages (0 ∷ written) old new
  pub apart : AllByRecursion (IsNone written) (pages_of found)
  pub free : AreFree (pages_of found) (log ∷ pages ++ made_pages (seen_before found change) made)
  pub is_catalog : IsCatalog (after_change found.catalog change (blob_of made))
  pub chained : HasChain new pages (catalog_spelling (after_change found.catalog change (blob_of made)))
  pub version : OfVersion (HoldsMade old new (seen_before found change) sequence) db change made
  pub later : sequence_of slots ≤ sequence
