-- What checking a file answers.
use Rattle.std.specs.Prelude.{◌≡◌, ℕ, ◌-◌, ◌^◌, min, Bool, true, false, ◌&&◌, List, [], ◌∷◌, length, slice_index, is_none, Result, Ok, Err, is_ok}
use Rattle.std.specs.List.{sum_by}
use Rattle.cell_values.specs.declared.datum.Row.{Row}
use Rattle.cell_values.specs.declared.schema.Schema.{Schema}
use Rattle.afl_outside.specs.Counts.{Rose}
use Rattle.afl_outside.specs.Disk.{DiskState}
use Rattle.page_chain.specs.Pages.{page_size, blob, first_past}
use Rattle.chunk_map.specs.declared.directory.DirEntry.{DirEntry}
use Rattle.chunk_map.specs.declared.directory.Directory.{Directory}
use Rattle.version_catalog.specs.declared.rules.catalog.CatalogArray.{CatalogArray}
use Rattle.plan_changes.specs.Databases.{Database, Stored, Version}
use Rattle.backup_format.specs.Pieces.{rising_numbers}
use Rattle.backup_format.specs.Table.{chunk_in, is_its_payload, rows_of}
use Rattle.file_meaning.specs.Opening.{opened}
use Rattle.file_meaning.specs.declared.meaning.found.Found.{Found}
use Rattle.file_checking.specs.Checking.{piece_in, pieces_in}
use Rattle.file_checking.specs.declared.sound.Sound.{Sound}
use Rattle.file_checking.specs.declared.sound.CheckFault.{CheckFault}
use Rattle.file_checking.specs.declared.sound.CheckFault.TheVariants.{Disk, NotDatabase, Damaged, WrongOverlap, Memory}

-- nothing, or why a test fails
abbrev pub Tested : Type 0
Tested = Result (Unit {0}) CheckFault

-- a step behind a test
abbrev pub behind : {A : Type 0} → Tested → Result A CheckFault → Result A CheckFault
behind (Ok u) step = step
behind (Err fault) step = Err fault

-- the first fault, one test after the other
abbrev pub each : {A : Type 0} → (A → Tested) → List A → Tested
each test [] = Ok tt
each test (x ∷ xs) = behind (test x) (each test xs)

-- passed, or a fault
abbrev pub or_fault : Bool → CheckFault → Tested
or_fault true fault = Ok tt
or_fault false fault = Err fault

-- ---- a payload

-- a payload is whole: its pages lie within the file, and its bytes spell a chunk of its number
abbrev pub is_whole : List ℕ → Schema → DirEntry → Bool
is_whole file schema entry = is_none (first_past page_size file entry.pages)
    && is_ok (chunk_in schema entry.at.items (blob page_size file entry.pages entry.length))

-- damage is told by the payload's first page
abbrev pub test_payload : List ℕ → Schema → DirEntry → Tested
test_payload file schema entry = or_fault (is_whole file schema entry) (Damaged (slice_index entry.pages 0))

-- its overlap holds its neighbours' cells: it is the one payload of its chunk that rows have
abbrev pub test_overlap : List ℕ → Schema → List Row → DirEntry → Tested
test_overlap file schema rows entry = or_fault (is_its_payload schema rows (piece_in file entry)) (WrongOverlap (slice_index entry.pages 0))

-- ---- a version

abbrev pub test_payloads : List ℕ → Schema → Directory → Tested
test_payloads file schema directory = each (test_payload file schema) directory.entries

-- the rows are those that the cores of all its payloads hold
abbrev pub test_overlaps : List ℕ → Schema → Directory → Tested
test_overlaps file schema directory = each (test_overlap file schema (rows_of schema (pieces_in file directory))) directory.entries

-- ---- a file

-- the versions of all arrays
abbrev pub test_rows : (Schema → Directory → Tested) → List CatalogArray → List (List Directory) → Tested
test_rows test [] rows = Ok tt
test_rows test (array ∷ arrays) [] = Ok tt
test_rows test (array ∷ arrays) (row ∷ rows) = behind (each (test array.entry.schema) row) (test_rows test arrays rows)

abbrev pub test_found : (Schema → Directory → Tested) → Found → Tested
test_found test found = test_rows test found.catalog.arrays found.directories

-- the last value of a `u64`, at which a count stands still
abbrev pub most : ℕ
most = 2 ^ 64 - 1

abbrev pub sound_found : Found → Sound
sound_found found = record {
  arrays = length found.catalog.arrays;
  versions = sum_by (λ row. length row) found.directories;
  chunks = min (sum_by (sum_by (λ (directory : Directory). length directory.entries)) found.directories) most;
}

-- all payloads, by array, version and number, and then all overlaps
abbrev pub checked_found : List ℕ → Result Found ℕ → Result Sound CheckFault
checked_found file (Ok found) = behind (test_found (test_payloads file) found) (behind (test_found (test_overlaps file) found) (Ok (sound_found found)))
checked_found file (Err page) = Err (NotDatabase page)

-- WHAT A FILE IS CHECKED AS: how much it holds, or its first fault
unfoldable pub checked : List ℕ → Result Sound CheckFault
checked file = checked_found file (opened file)

-- ---- what is answered

-- a step's value, or its fault, unless the disk fails or memory runs out
abbrev pub Answers : {A : Type 0} → Result A CheckFault → Result A CheckFault → Type 0
Answers (Ok x) step = step ≡ Ok x
Answers (Err Disk) step = Unit {0}
Answers (Err (NotDatabase page)) step = step ≡ Err (NotDatabase page)
Answers (Err (Damaged page)) step = step ≡ Err (Damaged page)
Answers (Err (WrongOverlap page)) step = step ≡ Err (WrongOverlap page)
Answers (Err Memory) step = Unit {0}

-- the disk's fault comes only where its count rose
abbrev pub HasCause : CheckFault → DiskState → DiskState → Type 0
HasCause Disk old new = Rose old.faults new.faults
HasCause fault old new = Unit {0}

-- ---- databases

abbrev pub chunks_of : Stored → ℕ
chunks_of array = sum_by (λ (version : Version). length (rising_numbers array.schema.dimensions version.rows)) array.versions

-- how much a database holds: the chunks of a version are those whose core holds a row
abbrev pub sound_database : Database → Sound
sound_database db = record {
  arrays = length db;
  versions = sum_by (λ (array : Stored). length array.versions) db;
  chunks = min (sum_by chunks_of db) most;
}
