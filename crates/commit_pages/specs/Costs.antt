-- How many pages a commit takes: those of the payloads that its change writes, of the new version's directory, and of the
-- record; where the log is full or there is none, in the record's place those of the next catalogue and of a log page.
use Rattle.std.specs.Prelude.{ℕ, ◌+◌, nat_lt, Bool, false, if◌then◌else◌, List, [], ◌∷◌, length, map, replicate, Option, Some, None}
use Rattle.std.specs.List.{filter}
use Rattle.cell_values.specs.declared.datum.Row.{Row}
use Rattle.cell_values.specs.declared.schema.Dimension.{Dimension}
use Rattle.cell_values.specs.declared.schema.Schema.{Schema}
use Rattle.array_rows.specs.Boxes.{within}
use Rattle.chunk_rle.specs.Geometry.{ChunkNumber, chunk_of, frame, overlaps}
use Rattle.chunk_rle.specs.Link.{is_listed, is_not_empty}
use Rattle.file_items.specs.Pages.{pages_needed}
use Rattle.chunk_rle.specs.Chunks.{spelling as payload_spelling}
use Rattle.chunk_map.specs.declared.directory.DirEntry.{DirEntry}
use Rattle.chunk_map.specs.Spelling.{spelling as directory_spelling}
use Rattle.page_chain.specs.Chains.{content_size}
use Rattle.page_chain.specs.Pages.{page_size, pages_for}
use Rattle.event_core.specs.Change.{Change}
use Rattle.event_core.specs.Change.TheVariants.{Create, Store, Insert, Remove, RemoveVersions}
use Rattle.event_core.specs.Databases.{Database, after, entry_of, fitted, new_rows, rows_if_whole}
use Rattle.file_meaning.specs.BlobAt.{BlobAt}
use Rattle.file_meaning.specs.Catalog.{Catalog}
use Rattle.file_meaning.specs.CatalogRecord.{CatalogRecord}
use Rattle.file_meaning.specs.Changed.{record_for}
use Rattle.file_meaning.specs.Spelling.{spell_record, spelling}
use Rattle.file_meaning.specs.Standing.{stored_chunk}
use Rattle.event_core.specs.Bases.{records_at}
use Rattle.event_core.specs.Legal.{Cost}

-- ---- payloads

-- the numbers of the chunks whose core holds a row, each once
abbrev pub with_number : ChunkNumber → List ChunkNumber → List ChunkNumber
with_number k ks = if is_listed k ks then ks else k ∷ ks

abbrev pub numbers_of : List Dimension → List Row → List ChunkNumber
numbers_of dims [] = []
numbers_of dims (row ∷ rows) = with_number (chunk_of dims row.at.items) (numbers_of dims rows)

abbrev pub payload_length : Schema → List Row → ChunkNumber → ℕ
payload_length schema rows k = length (payload_spelling schema.attributes (stored_chunk schema rows k))

abbrev pub payload_pages : Schema → List Row → List ChunkNumber → ℕ
payload_pages schema rows [] = 0
payload_pages schema rows (k ∷ ks) = pages_needed (payload_length schema rows k) + payload_pages schema rows ks

-- the chunks that an insert writes: those that then hold a cell and whose frame holds a cell of the input
abbrev pub touched : List Dimension → List Row → List ChunkNumber → List ChunkNumber
touched dims input ks = filter (λ k. is_not_empty (within (frame dims (overlaps dims) k) input)) ks

-- ---- directories

-- some bytes in as many pages as they need. Which pages these are changes no length
abbrev pub blob_of : ℕ → BlobAt
blob_of bytes = record { length = bytes; pages = replicate (pages_needed bytes) 1 }

abbrev pub dir_entry : Schema → List Row → ChunkNumber → DirEntry
dir_entry schema rows k = record {
  at = record { items = k };
  length = payload_length schema rows k;
  birth = 1;
  pages = replicate (pages_needed (payload_length schema rows k)) 1;
}

-- the directory of a version of these rows
abbrev pub directory_of : Schema → List Row → BlobAt
directory_of schema rows = blob_of (length (directory_spelling (record { entries = map (dir_entry schema rows) (numbers_of schema.dimensions rows) })))

-- the directory of the version that a change makes
abbrev pub directory_for : Database → Change → Option BlobAt
directory_for db (Create name schema) = None
directory_for db (Store name schema plan) = Some (directory_of schema (new_rows db (Store name schema plan)))
directory_for db (Insert name schema plan) = Some (directory_of schema (new_rows db (Insert name schema plan)))
directory_for db (Remove name) = None
directory_for db (RemoveVersions name below) = None

-- ---- the version, the record and the catalogue

-- the pages of the payloads that are written, and of the directory
abbrev pub version_pages : Schema → List Row → List ChunkNumber → ℕ
version_pages schema rows written = payload_pages schema rows written + length (directory_of schema rows).pages

abbrev pub new_version_pages : Database → Change → ℕ
new_version_pages db (Create name schema) = 0
new_version_pages db (Store name schema plan) =
    let rows = new_rows db (Store name schema plan) in version_pages schema rows (numbers_of schema.dimensions rows)
new_version_pages db (Insert name schema plan) =
    let rows = new_rows db (Insert name schema plan) in
    version_pages schema rows (touched schema.dimensions (rows_if_whole (fitted schema plan db)) (numbers_of schema.dimensions rows))
new_version_pages db (Remove name) = 0
new_version_pages db (RemoveVersions name below) = 0

-- the catalogue of a database
abbrev pub catalog_of : Database → Catalog
catalog_of db = record { arrays = map (λ a. record { entry = entry_of a; directories = map (λ v. directory_of a.schema v.rows) a.versions }) db }

-- the pages of a chain of so many bytes
abbrev pub chain_pages : ℕ → ℕ
chain_pages bytes = pages_for (content_size page_size) bytes

abbrev pub record_length : Option CatalogRecord → ℕ
record_length None = 0
record_length (Some entry) = length (spell_record entry)

abbrev pub record_pages : Database → Change → ℕ
record_pages db change = chain_pages (record_length (record_for (catalog_of db) change (directory_for db change)))

abbrev pub catalogue_pages : Database → Change → ℕ
catalogue_pages db change = chain_pages (length (spelling (catalog_of (after db change))))

-- ---- the log

-- whether one more record has room. An older file has no log
abbrev pub has_log_room : Option ℕ → Bool
has_log_room None = false
has_log_room (Some records) = nat_lt records 64

-- the cost of a change after a history, over a base whose log has so many records
abbrev pub cost_from : Option ℕ → Cost
cost_from records db h change =
    new_version_pages db change + (if has_log_room (records_at records h) then record_pages db change else catalogue_pages db change + 1)
