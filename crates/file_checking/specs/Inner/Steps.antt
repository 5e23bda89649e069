-- The steps of checking a file: a payload, a version, an array, all arrays.
use Rattle.std.specs.Prelude.{◌≡◌, ℕ, ◌<◌, Bool, true, false, nat_lt, List, length, map, slice_index, Option, None, Some, is_none, Result, Ok, Err, is_ok, IfOk}
use Rattle.std.specs.List.{AllByRecursion, list_any}
use Rattle.cell_values.specs.declared.schema.Dimension.{Dimension}
use Rattle.cell_values.specs.declared.schema.Schema.{Schema}
use Rattle.cell_values.specs.Schemas.{IsValid}
use Rattle.array_geom.specs.declared.chunk.Chunk.{Chunk}
use Rattle.array_geom.specs.Geometry.{has_core}
use Rattle.page_chain.specs.Pages.{page_size, pages_for, blob, first_past}
use Rattle.page_chain.specs.declared.fault.OpenCause.{OpenCause}
use Rattle.page_chain.specs.declared.fault.OpenCause.TheVariants as causes
use Rattle.chunk_map.specs.declared.directory.DirEntry.{DirEntry}
use Rattle.chunk_map.specs.declared.directory.Directory.{Directory}
use Rattle.chunk_map.specs.Entries.{AreRising}
use Rattle.version_catalog.specs.declared.rules.catalog.CatalogArray.{CatalogArray}
use Rattle.plan_changes.specs.Databases.{Database}
use Rattle.backup_format.specs.Laws.{AreBytes}
use Rattle.backup_format.specs.Table.{chunk_in, chunk_of_piece, rows_of}
use Rattle.file_meaning.specs.Standing.{Stands}
use Rattle.file_checking.specs.Checking.{piece_in}
use Rattle.file_checking.specs.Checks.{Answers, Tested, behind, checked, each, sound_database, test_overlap, test_overlaps, test_payload, test_payloads, test_rows}
use Rattle.file_checking.specs.declared.sound.Sound.{Sound}
use Rattle.file_checking.specs.declared.sound.CheckFault.{CheckFault}
use Rattle.file_checking.specs.declared.sound.CheckFault.TheVariants.{Disk, NotDatabase, Damaged, WrongOverlap, Memory}

-- a call that stops where a step does, unless the disk fails or memory runs out
abbrev pub Stops : CheckFault → Tested → Type 0
Stops fault step = Answers {A = Unit {0}} (Err fault) step

-- ---- one payload

-- an entry of a directory that was read: of a chunk that has a core, in some pages, as many as its bytes need
pub record IsEntryOf (schema : Schema) (entry : DirEntry) : Type 0 where
  pub core : has_core schema.dimensions entry.at.items ≡ true
  pub count : length entry.pages ≡ pages_for page_size entry.length
  pub some : 0 < length entry.pages

abbrev pub AreEntriesOf : Schema → List DirEntry → Type 0
AreEntriesOf schema = AllByRecursion (IsEntryOf schema)

abbrev pub payload_in : List ℕ → DirEntry → List ℕ
payload_in file entry = blob page_size file entry.pages entry.length

-- the bytes of a payload, or its first page, where one of its pages passes the end
abbrev pub IsPayloadRead : List ℕ → DirEntry → Result (List ℕ) CheckFault → Type 0
IsPayloadRead file entry (Ok bytes) = (is_none (first_past page_size file entry.pages) ≡ true) × (bytes ≡ payload_in file entry)
IsPayloadRead file entry (Err Disk) = Unit {0}
IsPayloadRead file entry (Err (NotDatabase page)) = ⊥
IsPayloadRead file entry (Err (Damaged page)) = (page ≡ slice_index entry.pages 0) × (is_none (first_past page_size file entry.pages) ≡ false)
IsPayloadRead file entry (Err (WrongOverlap page)) = ⊥
IsPayloadRead file entry (Err Memory) = Unit {0}

-- the chunk that bytes spell, or the payload's first page, where they spell none
abbrev pub IsDecoded : Schema → DirEntry → List ℕ → Result Chunk CheckFault → Type 0
IsDecoded schema entry bytes (Ok chunk) = chunk_in schema entry.at.items bytes ≡ Ok chunk
IsDecoded schema entry bytes (Err Disk) = ⊥
IsDecoded schema entry bytes (Err (NotDatabase page)) = ⊥
IsDecoded schema entry bytes (Err (Damaged page)) = (page ≡ slice_index entry.pages 0) × (is_ok (chunk_in schema entry.at.items bytes) ≡ false)
IsDecoded schema entry bytes (Err (WrongOverlap page)) = ⊥
IsDecoded schema entry bytes (Err Memory) = Unit {0}

-- a payload that is whole, its chunk and its bytes
pub record IsChunkRead (file : List ℕ) (schema : Schema) (entry : DirEntry) (chunk : Chunk) (bytes : List ℕ) : Type 0 where
  pub whole : test_payload file schema entry ≡ Ok tt
  pub is : bytes ≡ payload_in file entry
  pub small : AreBytes (payload_in file entry)
  pub chunk_is : chunk ≡ chunk_of_piece schema (piece_in file entry)

-- ---- the payloads of a version

abbrev pub IsSmall : List ℕ → DirEntry → Type 0
IsSmall file entry = AreBytes (payload_in file entry)

abbrev pub test_entries : List ℕ → Schema → List DirEntry → Tested
test_entries file schema = each (test_payload file schema)

-- payloads that are whole, and their bytes
pub record AreWhole (file : List ℕ) (schema : Schema) (entries : List DirEntry) : Type 0 where
  pub whole : test_entries file schema entries ≡ Ok tt
  pub small : AllByRecursion (IsSmall file) entries

-- with their chunks and their bytes
pub record AreChunksRead (file : List ℕ) (schema : Schema) (entries : List DirEntry) (chunks : List Chunk) (payloads : List (List ℕ)) : Type 0 where
  pub are : AreWhole file schema entries
  pub chunks_are : chunks ≡ map (λ entry. chunk_of_piece schema (piece_in file entry)) entries
  pub payloads_are : payloads ≡ map (payload_in file) entries

-- ---- a version

-- where the first wrong overlap is
abbrev pub overlap_fault : Option ℕ → Tested
overlap_fault None = Ok tt
overlap_fault (Some page) = Err (WrongOverlap page)

-- whether the chunks of an array hold cells of their neighbours
abbrev pub has_overlaps : List Dimension → Bool
has_overlaps dims = list_any (λ d. nat_lt 0 d.overlap) dims

-- what a directory is that was read
pub record IsDirectoryOf (schema : Schema) (directory : Directory) : Type 0 where
  pub entries : AreEntriesOf schema directory.entries
  pub rising : AreRising directory.entries

abbrev pub overlaps_of : List ℕ → Schema → List DirEntry → Tested
overlaps_of file schema entries = each (test_overlap file schema (rows_of schema (map (piece_in file) entries))) entries

-- payloads that are whole, and the first overlap that is wrong
pub record AreOverlaps (file : List ℕ) (schema : Schema) (entries : List DirEntry) (page : Option ℕ) : Type 0 where
  pub are : AreWhole file schema entries
  pub overlaps : overlap_fault page ≡ overlaps_of file schema entries

abbrev pub AreSmall : List ℕ → Directory → Type 0
AreSmall file directory = AllByRecursion (IsSmall file) directory.entries

-- a version that was checked, with the first wrong overlap before it and up to it
pub record IsChecked (file : List ℕ) (schema : Schema) (directory : Directory) (old new : Option ℕ) : Type 0 where
  pub are : AreWhole file schema directory.entries
  pub overlaps : overlap_fault new ≡ behind (overlap_fault old) (test_overlaps file schema directory)

-- ---- an array, and all arrays

pub record AreChecked (file : List ℕ) (schema : Schema) (row : List Directory) (old new : Option ℕ) : Type 0 where
  pub whole : each (test_payloads file schema) row ≡ Ok tt
  pub small : AllByRecursion (AreSmall file) row
  pub overlaps : overlap_fault new ≡ behind (overlap_fault old) (each (test_overlaps file schema) row)

pub record IsRowOf (array : CatalogArray) (row : List Directory) : Type 0 where
  pub valid : IsValid array.entry.schema
  pub each : AllByRecursion (IsDirectoryOf array.entry.schema) row

pub record AreRowsChecked (file : List ℕ) (arrays : List CatalogArray) (rows : List (List Directory)) (old new : Option ℕ) : Type 0 where
  pub whole : test_rows (test_payloads file) arrays rows ≡ Ok tt
  pub small : AllByRecursion (AllByRecursion (AreSmall file)) rows
  pub overlaps : overlap_fault new ≡ behind (overlap_fault old) (test_rows (test_overlaps file) arrays rows)

-- ---- the file

abbrev pub fault_by : OpenCause → CheckFault
fault_by causes.Disk = Disk
fault_by (causes.NotDatabase page) = NotDatabase page
fault_by causes.Memory = Memory

-- what is answered of a file
pub record IsAnswer (file : List ℕ) (result : Result Sound CheckFault) : Type 0 where
  pub exact : Answers result (checked file)
  pub stands : IfOk result (λ sound. (db : Database) × Stands file db × (sound ≡ sound_database db))
  pub sound : (db : Database) → Stands file db → Answers result (Ok (sound_database db))
