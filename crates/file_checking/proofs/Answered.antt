-- What a check of a file says of the database that it stands for.
use Rattle.std.proofs.Common.{◌≡◌, ◌+◌, ℕ, suc, min, Bool, true, false, List, [], ◌∷◌, length, map, None, Some, Option, Result, Ok, Err, refl, sym, ◌∙◌, ap, subst, arith}
use Rattle.std.specs.Prelude.{is_none, is_ok}
use Rattle.std.specs.List.{AllByRecursion, AllZip, list_all, sum_by}
use Rattle.std.proofs.lemmas.Bool.{and_parts, and_from}
use Rattle.std.proofs.lemmas.List.Sums.{sum_by-cons}
use Rattle.cell_values.specs.declared.datum.Row.{Row}
use Rattle.cell_values.specs.declared.schema.Schema.{Schema}
use Rattle.array_rows.specs.Arrays.{AreRowsOf}
use Rattle.array_geom.specs.declared.chunk.Chunk.{Chunk}
use Rattle.array_geom.specs.Geometry.{ChunkNumber}
use Rattle.logical_plan.specs.Typing.{AreSound}
use Rattle.logical_plan.specs.declared.names.NameEntry.{NameEntry}
use Rattle.logical_plan.specs.declared.names.Names.{Names}
use Rattle.page_chain.specs.Pages.{page_size, first_past}
use Rattle.chunk_map.specs.declared.directory.DirEntry.{DirEntry}
use Rattle.chunk_map.specs.declared.directory.Directory.{Directory}
use Rattle.chunk_map.specs.Entries.{AreRising, numbers}
use Rattle.chunk_map.specs.Spelling.{IsDirectory, IsEntry}
use Rattle.plan_changes.specs.Databases.{Database, HoldsArrays, Stored, Version, entry_of}
use Rattle.version_catalog.specs.declared.rules.catalog.CatalogArray.{CatalogArray}
use Rattle.backup_format.specs.Pieces.{rising_numbers}
use Rattle.backup_format.specs.Table.{chunk_in, is_its_payload, rows_of}
use Rattle.backup_format.proofs.CoreChunks.{core_long}
use Rattle.backup_format.proofs.RisingNumbers.{AreSized, the_only}
use Rattle.file_meaning.specs.Opening.{opened}
use Rattle.file_meaning.specs.Standing.{HoldsDatabase, HoldsFound, HoldsPart, HoldsVersion, HoldsVersions, Stands}
use Rattle.file_meaning.specs.declared.meaning.found.Found.{Found}
use Rattle.file_meaning.proofs.Elsewhere.{AreThere}
use Rattle.file_reading.specs.Reading.{IsFound}
use Rattle.file_reading.specs.Reading as reading
use Rattle.file_checking.specs.Checking.{AreDirectories, AreOfBytes, IsRead, PassVersions, PassesFound, PassesVersion, piece_in, pieces_in}
use Rattle.file_checking.specs.Checks.{Answers, Tested, checked, checked_found, chunks_of, behind, each, is_whole, most, or_fault, sound_database, sound_found, test_found, test_overlap, test_overlaps, test_payload, test_payloads, test_rows}
use Rattle.file_checking.specs.Inner.Steps.{AreEntriesOf, AreRowsChecked, AreSmall, IsAnswer, IsDirectoryOf, IsRowOf, IsSmall, Stops, payload_in}
use Rattle.file_checking.specs.declared.sound.Sound.{Sound}
use Rattle.file_checking.specs.declared.sound.CheckFault.{CheckFault}
use Rattle.file_checking.specs.declared.sound.CheckFault.TheVariants.{Disk, NotDatabase, WrongOverlap, Memory}
use Rattle.file_checking.proofs.Files.{checked_files_stand}
use Rattle.file_checking.proofs.Standing.{standing_files_pass}
use Rattle.file_checking.proofs.FoundRows.{found_rows, payloads_lie_within}
use Rattle.file_checking.proofs.PayloadLaws.{cons_parts}
use Rattle.file_checking.proofs.Tests.{both_pass, passed, passes_on, stops_then}

-- ---- what a test that passes says

passes_where : (b : Bool) (fault : CheckFault) → or_fault b fault ≡ Ok tt → b ≡ true
passes_where true fault is = refl
passes_where false fault is = absurd cc

chunk_where : (r : Result Chunk ℕ) → is_ok r ≡ true → (chunk : Chunk) × (r ≡ Ok chunk)
chunk_where (Ok chunk) is = (chunk, refl)
chunk_where (Err left) is = absurd cc

pub pieces_read : (file : List ℕ) (schema : Schema) (entries : List DirEntry) → AreEntriesOf schema entries → each (test_payload file schema) entries ≡ Ok tt → AllByRecursion (IsRead schema) (map (piece_in file) entries)
pieces_read file schema [] are passes = tt
pieces_read file schema (e ∷ entries) are passes =
    let both = both_pass (test_payload file schema e) (each (test_payload file schema) entries) tt passes in
    let whole = passes_where (is_whole file schema e) _ both.0 in
    let spelled = (and_parts (is_none (first_past page_size file e.pages)) (is_ok (chunk_in schema e.at.items (payload_in file e))) whole).1 in
    let read = chunk_where (chunk_in schema e.at.items (payload_in file e)) spelled in
    (record { core = are.0.core; chunk = read.0; read = read.1 }, pieces_read file schema entries are.1 both.1)

pieces_fit : (file : List ℕ) (schema : Schema) (rows : List Row) (entries : List DirEntry) → each (test_overlap file schema rows) entries ≡ Ok tt → list_all (is_its_payload schema rows) (map (piece_in file) entries) ≡ true
pieces_fit file schema rows [] passes = refl
pieces_fit file schema rows (e ∷ entries) passes =
    let both = both_pass (test_overlap file schema rows e) (each (test_overlap file schema rows) entries) tt passes in
    and_from (is_its_payload schema rows (piece_in file e)) (list_all (is_its_payload schema rows) (map (piece_in file) entries))
    (passes_where (is_its_payload schema rows (piece_in file e)) _ both.0) (pieces_fit file schema rows entries both.1)

pub of_bytes : (file : List ℕ) (entries : List DirEntry) → AllByRecursion (IsSmall file) entries → AreOfBytes (map (piece_in file) entries)
of_bytes file [] all = tt
of_bytes file (e ∷ entries) all = (all.0, of_bytes file entries all.1)

abbrev PassNumbers : List ℕ → Schema → List ℕ → List Directory → Type 0
PassNumbers file schema numbers row = AllZip (λ (number : ℕ) (directory : Directory). PassesVersion file schema directory) numbers row

row_passes : (file : List ℕ) (schema : Schema) (numbers : List ℕ) (row : List Directory) → length row ≡ length numbers → AllByRecursion (IsDirectoryOf schema) row → each (test_payloads file schema) row ≡ Ok tt
    → AllByRecursion (AreSmall file) row → each (test_overlaps file schema) row ≡ Ok tt → PassNumbers file schema numbers row
row_passes file schema [] [] same are whole small fit = tt
row_passes file schema [] (d ∷ row) same are whole small fit = absurd (omega (arith, same))
row_passes file schema (n ∷ numbers) [] same are whole small fit = absurd (omega (arith, same))
row_passes file schema (n ∷ numbers) (d ∷ row) same are whole small fit =
    let w = both_pass (test_payloads file schema d) (each (test_payloads file schema) row) tt whole in
    let f = both_pass (test_overlaps file schema d) (each (test_overlaps file schema) row) tt fit in
    let first : PassesVersion file schema d = record {
      rising = are.0.rising;
      bytes = of_bytes file d.entries small.0;
      passes = record { read = pieces_read file schema d.entries are.0.entries w.0; fit = pieces_fit file schema (rows_of schema (pieces_in file d)) d.entries f.0 };
    } in
    (first, row_passes file schema numbers row (omega (arith, same)) are.1 w.1 small.1 f.1)

rows_pass : (file : List ℕ) (arrays : List CatalogArray) (rows : List (List Directory)) → AllZip reading.AreDirectories arrays rows → AllZip IsRowOf arrays rows → test_rows (test_payloads file) arrays rows ≡ Ok tt
    → AllByRecursion (AllByRecursion (AreSmall file)) rows → test_rows (test_overlaps file) arrays rows ≡ Ok tt → AllZip (PassVersions file) arrays rows
rows_pass file [] [] counted are whole small fit = tt
rows_pass file [] (row ∷ rows) counted are whole small fit = absurd are
rows_pass file (a ∷ arrays) [] counted are whole small fit = absurd are
rows_pass file (a ∷ arrays) (row ∷ rows) counted are whole small fit =
    let w = both_pass (each (test_payloads file a.entry.schema) row) (test_rows (test_payloads file) arrays rows) tt whole in
    let f = both_pass (each (test_overlaps file a.entry.schema) row) (test_rows (test_overlaps file) arrays rows) tt fit in
    (row_passes file a.entry.schema a.entry.versions row counted.0.count are.0.each w.0 small.0 f.0, rows_pass file arrays rows counted.1 are.1 w.1 small.1 f.1)

-- what was found passes
found_passes : (file : List ℕ) (found : Found) → IsFound found → test_found (test_payloads file) found ≡ Ok tt → AllByRecursion (AllByRecursion (AreSmall file)) found.directories → test_found (test_overlaps file) found ≡ Ok tt
    → PassesFound file found
found_passes file found is whole small fit = record {
  names = is.catalog.names;
  versions = rows_pass file found.catalog.arrays found.directories is.directories (found_rows found is) whole small fit;
}

-- ---- and the other way round

tested_where : (b : Bool) (fault : CheckFault) → b ≡ true → or_fault b fault ≡ Ok tt
tested_where b fault is = ap (λ (c : Bool). or_fault c fault) is

entries_whole : (file : List ℕ) (schema : Schema) (rows : List Row) (entries : List DirEntry) → AreThere file entries → AllByRecursion (HoldsPart file schema rows) entries → each (test_payload file schema) entries ≡ Ok tt
entries_whole file schema rows [] there hold = refl
entries_whole file schema rows (e ∷ entries) there hold =
    let pages : is_none (first_past page_size file e.pages) ≡ true = ap is_none there.0 in
    let spelled : is_ok (chunk_in schema e.at.items (payload_in file e)) ≡ true = ap is_ok hold.0 in
    let whole = and_from (is_none (first_past page_size file e.pages)) (is_ok (chunk_in schema e.at.items (payload_in file e))) pages spelled in
    passed (test_payload file schema e) (each (test_payload file schema) entries) (tested_where (is_whole file schema e) _ whole) ∙ entries_whole file schema rows entries there.1 hold.1

row_whole : (file : List ℕ) (schema : Schema) (vs : List Version) (row : List Directory) → AllByRecursion (λ (d : Directory). AreThere file d.entries) row
    → AllZip (λ (version : Version) (directory : Directory). HoldsVersion file schema directory version.rows) vs row → each (test_payloads file schema) row ≡ Ok tt
row_whole file schema [] [] there holds = refl
row_whole file schema [] (d ∷ row) there holds = absurd holds
row_whole file schema (v ∷ vs) [] there holds = absurd holds
row_whole file schema (v ∷ vs) (d ∷ row) there holds =
    passed (test_payloads file schema d) (each (test_payloads file schema) row) (entries_whole file schema v.rows d.entries there.0 holds.0.payloads) ∙ row_whole file schema vs row there.1 holds.1

abbrev entries_in : List CatalogArray → List NameEntry
entries_in arrays = map (λ (array : CatalogArray). array.entry) arrays

first_entry : (a : CatalogArray) (arrays : List CatalogArray) (s : Stored) (db : Database) → entries_in (a ∷ arrays) ≡ map entry_of (s ∷ db) → (a.entry ≡ entry_of s) × (entries_in arrays ≡ map entry_of db)
first_entry a arrays s db is = cons_parts a.entry (entry_of s) (entries_in arrays) (map entry_of db) is

rows_whole : (file : List ℕ) (arrays : List CatalogArray) (db : Database) (rows : List (List Directory)) → entries_in arrays ≡ map entry_of db → AllByRecursion (AllByRecursion (λ (d : Directory). AreThere file d.entries)) rows
    → AllZip (HoldsVersions file) db rows → test_rows (test_payloads file) arrays rows ≡ Ok tt
rows_whole file [] db rows names there holds = refl
rows_whole file (a ∷ arrays) [] rows names there holds = absurd cc
rows_whole file (a ∷ arrays) (s ∷ db) [] names there holds = absurd holds
rows_whole file (a ∷ arrays) (s ∷ db) (row ∷ rows) names there holds =
    let split = first_entry a arrays s db names in
    let schema : a.entry.schema ≡ s.schema = ap (λ (e : NameEntry). e.schema) split.0 in
    let first : each (test_payloads file a.entry.schema) row ≡ Ok tt = ap (λ (k : Schema). each (test_payloads file k) row) schema ∙ row_whole file s.schema s.versions row there.0 holds.0 in
    passed (each (test_payloads file a.entry.schema) row) (test_rows (test_payloads file) arrays rows) first ∙ rows_whole file arrays db rows split.1 there.1 holds.1

held : (file : List ℕ) (found : Found) (db : Database) → opened file ≡ Ok found → Stands file db → HoldsDatabase file db found
held file found db opens stands = subst (λ (answer : Result Found ℕ). HoldsFound file db answer) opens stands.holds

entries_same : (file : List ℕ) (found : Found) (db : Database) → HoldsDatabase file db found → entries_in found.catalog.arrays ≡ map entry_of db
entries_same file found db holds = ap (λ (names : Names). names.arrays) holds.names

-- the payloads of a file that stands for a database are whole
standing_whole : (file : List ℕ) (found : Found) (db : Database) → opened file ≡ Ok found → Stands file db → test_found (test_payloads file) found ≡ Ok tt
standing_whole file found db opens stands =
    let holds = held file found db opens stands in
    rows_whole file found.catalog.arrays db found.directories (entries_same file found db holds) (payloads_lie_within file found opens) holds.versions

pub pieces_tested : (file : List ℕ) (schema : Schema) (rows : List Row) (entries : List DirEntry) → list_all (is_its_payload schema rows) (map (piece_in file) entries) ≡ true → each (test_overlap file schema rows) entries ≡ Ok tt
pieces_tested file schema rows [] fit = refl
pieces_tested file schema rows (e ∷ entries) fit =
    let both = and_parts (is_its_payload schema rows (piece_in file e)) (list_all (is_its_payload schema rows) (map (piece_in file) entries)) fit in
    passed (test_overlap file schema rows e) (each (test_overlap file schema rows) entries) (tested_where (is_its_payload schema rows (piece_in file e)) _ both.0) ∙ pieces_tested file schema rows entries both.1

row_fits : (file : List ℕ) (schema : Schema) (numbers : List ℕ) (row : List Directory) → PassNumbers file schema numbers row → each (test_overlaps file schema) row ≡ Ok tt
row_fits file schema [] [] passes = refl
row_fits file schema [] (d ∷ row) passes = absurd passes
row_fits file schema (n ∷ numbers) [] passes = absurd passes
row_fits file schema (n ∷ numbers) (d ∷ row) passes =
    passed (test_overlaps file schema d) (each (test_overlaps file schema) row) (pieces_tested file schema (rows_of schema (pieces_in file d)) d.entries passes.0.passes.fit) ∙ row_fits file schema numbers row passes.1

rows_fit : (file : List ℕ) (arrays : List CatalogArray) (rows : List (List Directory)) → AllZip (PassVersions file) arrays rows → test_rows (test_overlaps file) arrays rows ≡ Ok tt
rows_fit file [] rows passes = refl
rows_fit file (a ∷ arrays) [] passes = absurd passes
rows_fit file (a ∷ arrays) (row ∷ rows) passes =
    passed (each (test_overlaps file a.entry.schema) row) (test_rows (test_overlaps file) arrays rows) (row_fits file a.entry.schema a.entry.versions row passes.0) ∙ rows_fit file arrays rows passes.1

-- ---- the directories that were found

all_rising : (schema : Schema) (row : List Directory) → AllByRecursion (IsDirectory (length schema.dimensions)) row → AllByRecursion (λ (d : Directory). AreRising d.entries) row
all_rising schema [] all = tt
all_rising schema (d ∷ row) all = (all.0.rising, all_rising schema row all.1)

all_bytes : (file : List ℕ) (row : List Directory) → AllByRecursion (AreSmall file) row → AllByRecursion (λ (d : Directory). AreOfBytes (pieces_in file d)) row
all_bytes file [] all = tt
all_bytes file (d ∷ row) all = (of_bytes file d.entries all.0, all_bytes file row all.1)

abbrev IsLong : Schema → DirEntry → Type 0
IsLong schema entry = length entry.at.items ≡ length schema.dimensions

entries_long : (schema : Schema) (entries : List DirEntry) → AllByRecursion (IsEntry (length schema.dimensions)) entries → AllByRecursion (IsLong schema) entries
entries_long schema [] all = tt
entries_long schema (e ∷ entries) all = (all.0.dimensions, entries_long schema entries all.1)

all_long : (schema : Schema) (row : List Directory) → AllByRecursion (IsDirectory (length schema.dimensions)) row → AllByRecursion (λ (d : Directory). AllByRecursion (IsLong schema) d.entries) row
all_long schema [] all = tt
all_long schema (d ∷ row) all = (entries_long schema d.entries all.0.each, all_long schema row all.1)

each_rising : (arrays : List CatalogArray) (rows : List (List Directory)) → AllZip reading.AreDirectories arrays rows → AllByRecursion (AllByRecursion (λ (d : Directory). AreRising d.entries)) rows
each_rising [] [] are = tt
each_rising [] (row ∷ rows) are = absurd are
each_rising (a ∷ arrays) [] are = absurd are
each_rising (a ∷ arrays) (row ∷ rows) are = (all_rising a.entry.schema row are.0.each, each_rising arrays rows are.1)

each_bytes : (file : List ℕ) (rows : List (List Directory)) → AllByRecursion (AllByRecursion (AreSmall file)) rows → AllByRecursion (AllByRecursion (λ (d : Directory). AreOfBytes (pieces_in file d))) rows
each_bytes file [] all = tt
each_bytes file (row ∷ rows) all = (all_bytes file row all.0, each_bytes file rows all.1)

each_long : (arrays : List CatalogArray) (rows : List (List Directory)) → AllZip reading.AreDirectories arrays rows
    → AllZip (λ (a : CatalogArray) (row : List Directory). AllByRecursion (λ (d : Directory). AllByRecursion (IsLong a.entry.schema) d.entries) row) arrays rows
each_long [] [] are = tt
each_long [] (row ∷ rows) are = absurd are
each_long (a ∷ arrays) [] are = absurd are
each_long (a ∷ arrays) (row ∷ rows) are = (all_long a.entry.schema row are.0.each, each_long arrays rows are.1)

found_directories : (file : List ℕ) (found : Found) → IsFound found → AllByRecursion (AllByRecursion (AreSmall file)) found.directories → AreDirectories file found
found_directories file found is small = record {
  rising = each_rising found.catalog.arrays found.directories is.directories;
  bytes = each_bytes file found.directories small;
  long = each_long found.catalog.arrays found.directories is.directories;
}

-- and no overlap is wrong
standing_fits : (file : List ℕ) (found : Found) (db : Database) → opened file ≡ Ok found → IsFound found → AllByRecursion (AllByRecursion (AreSmall file)) found.directories → Stands file db → test_found (test_overlaps file) found ≡ Ok tt
standing_fits file found db opens is small stands =
    rows_fit file found.catalog.arrays found.directories (standing_files_pass file found db opens stands (found_directories file found is small)).versions

-- ---- how much

pieces_sized : (schema : Schema) (file : List ℕ) (entries : List DirEntry) → AllByRecursion (IsRead schema) (map (piece_in file) entries) → AreSized (length schema.dimensions) (numbers entries)
pieces_sized schema file [] read = tt
pieces_sized schema file (e ∷ entries) read = (core_long schema.dimensions e.at.items read.0.core, pieces_sized schema file entries read.1)

length_numbers : (entries : List DirEntry) → length (numbers entries) ≡ length entries
length_numbers [] = refl
length_numbers (e ∷ entries) = ap suc (length_numbers entries)

version_count : (file : List ℕ) (schema : Schema) (directory : Directory) (rows : List Row) → PassesVersion file schema directory → AreRowsOf schema rows → HoldsVersion file schema directory rows
    → length directory.entries ≡ length (rising_numbers schema.dimensions rows)
version_count file schema directory rows passes are holds =
    sym (length_numbers directory.entries)
    ∙ ap (λ (ks : List ChunkNumber). length ks) (the_only schema rows (numbers directory.entries) are passes.rising (pieces_sized schema file directory.entries passes.passes.read) holds.listed)

abbrev chunks_in : Schema → Version → ℕ
chunks_in schema version = length (rising_numbers schema.dimensions version.rows)

record AreCounted (schema : Schema) (vs : List Version) (row : List Directory) : Type 0 where
  versions : length row ≡ length vs
  chunks : sum_by (λ (d : Directory). length d.entries) row ≡ sum_by (chunks_in schema) vs

row_count : (file : List ℕ) (schema : Schema) (numbers : List ℕ) (vs : List Version) (row : List Directory) → PassNumbers file schema numbers row → AllByRecursion (λ (v : Version). AreRowsOf schema v.rows × AreSound schema v.rows) vs
    → AllZip (λ (version : Version) (directory : Directory). HoldsVersion file schema directory version.rows) vs row → AreCounted schema vs row
row_count file schema numbers [] [] passes rows holds = record { versions = refl; chunks = refl }
row_count file schema numbers [] (d ∷ row) passes rows holds = absurd holds
row_count file schema numbers (v ∷ vs) [] passes rows holds = absurd holds
row_count file schema [] (v ∷ vs) (d ∷ row) passes rows holds = absurd passes
row_count file schema (n ∷ numbers) (v ∷ vs) (d ∷ row) passes rows holds =
    let later = row_count file schema numbers vs row passes.1 rows.1 holds.1 in
    let first = version_count file schema d v.rows passes.0 rows.0.0 holds.0 in
    record {
      versions = ap suc later.versions;
      chunks = sum_by-cons (λ (e : Directory). length e.entries) d row ∙ ap (λ (n : ℕ). n + sum_by (λ (e : Directory). length e.entries) row) first
          ∙ ap (λ (n : ℕ). chunks_in schema v + n) later.chunks ∙ sym (sum_by-cons (chunks_in schema) v vs);
    }

record AreAllCounted (db : Database) (rows : List (List Directory)) : Type 0 where
  versions : sum_by (λ (row : List Directory). length row) rows ≡ sum_by (λ (a : Stored). length a.versions) db
  chunks : sum_by (sum_by (λ (d : Directory). length d.entries)) rows ≡ sum_by chunks_of db

rows_count : (file : List ℕ) (arrays : List CatalogArray) (db : Database) (rows : List (List Directory)) → entries_in arrays ≡ map entry_of db → AllZip (PassVersions file) arrays rows → HoldsArrays db → AllZip (HoldsVersions file) db rows → AreAllCounted db rows
rows_count file arrays [] [] names passes hold holds = record { versions = refl; chunks = refl }
rows_count file arrays [] (row ∷ rows) names passes hold holds = absurd holds
rows_count file arrays (s ∷ db) [] names passes hold holds = absurd holds
rows_count file [] (s ∷ db) (row ∷ rows) names passes hold holds = absurd passes
rows_count file (a ∷ arrays) (s ∷ db) (row ∷ rows) names passes hold holds =
    let split = first_entry a arrays s db names in
    let schema : a.entry.schema ≡ s.schema = ap (λ (e : NameEntry). e.schema) split.0 in
    let own : PassNumbers file s.schema a.entry.versions row = subst (λ (k : Schema). PassNumbers file k a.entry.versions row) schema passes.0 in
    let first = row_count file s.schema a.entry.versions s.versions row own hold.0 holds.0 in
    let later = rows_count file arrays db rows split.1 passes.1 hold.1 holds.1 in
    record {
      versions = sum_by-cons (λ (r : List Directory). length r) row rows ∙ ap (λ (n : ℕ). n + sum_by (λ (r : List Directory). length r) rows) first.versions
          ∙ ap (λ (n : ℕ). length s.versions + n) later.versions ∙ sym (sum_by-cons (λ (b : Stored). length b.versions) s db);
      chunks = sum_by-cons (sum_by (λ (d : Directory). length d.entries)) row rows ∙ ap (λ (n : ℕ). n + sum_by (sum_by (λ (d : Directory). length d.entries)) rows) first.chunks
          ∙ ap (λ (n : ℕ). chunks_of s + n) later.chunks ∙ sym (sum_by-cons chunks_of s db);
    }

length_entries : (arrays : List CatalogArray) → length (entries_in arrays) ≡ length arrays
length_entries [] = refl
length_entries (a ∷ arrays) = ap suc (length_entries arrays)

length_db : (db : Database) → length (map entry_of db) ≡ length db
length_db [] = refl
length_db (s ∷ db) = ap suc (length_db db)

-- what was found is as much as the database holds
sound_same : (file : List ℕ) (found : Found) (db : Database) → PassesFound file found → HoldsDatabase file db found → HoldsArrays db → sound_found found ≡ sound_database db
sound_same file found db passes holds hold =
    let names = entries_same file found db holds in
    let counted = rows_count file found.catalog.arrays db found.directories names passes.versions hold holds.versions in
    let arrays : length found.catalog.arrays ≡ length db = sym (length_entries found.catalog.arrays) ∙ ap (λ (es : List NameEntry). length es) names ∙ length_db db in
    ap (λ (n : ℕ). record { arrays = n; versions = sum_by (λ (r : List Directory). length r) found.directories; chunks = min (sum_by (sum_by (λ (d : Directory). length d.entries)) found.directories) most }) arrays
    ∙ ap (λ (n : ℕ). record { arrays = length db; versions = n; chunks = min (sum_by (sum_by (λ (d : Directory). length d.entries)) found.directories) most }) counted.versions
    ∙ ap (λ (n : ℕ). record { arrays = length db; versions = sum_by (λ (b : Stored). length b.versions) db; chunks = min n most }) counted.chunks

-- ---- what is answered

checked_is : (file : List ℕ) (found : Found) → opened file ≡ Ok found → checked file ≡ checked_found file (Ok found)
unfolding checked
checked_is file found opens = ap (checked_found file) opens

checked_wrong : (file : List ℕ) (page : ℕ) → opened file ≡ Err page → checked file ≡ Err (NotDatabase page)
unfolding checked
checked_wrong file page opens = ap (checked_found file) opens

no_database : (file : List ℕ) (page : ℕ) (db : Database) → opened file ≡ Err page → Stands file db → ⊥
no_database file page db opens stands = subst (λ (answer : Result Found ℕ). HoldsFound file db answer) opens stands.holds

-- of a file that doesn't open
pub unopened_answer : (file : List ℕ) (page : ℕ) → opened file ≡ Err page → IsAnswer file (Err (NotDatabase page))
unopened_answer file page opens = record {
  exact = checked_wrong file page opens;
  stands = tt;
  sound = λ db stands. absurd (no_database file page db opens stands);
}

-- where the disk failed, or memory ran out
pub disk_answer : (file : List ℕ) → IsAnswer file (Err Disk)
disk_answer file = record { exact = tt; stands = tt; sound = λ db stands. tt }

pub memory_answer : (file : List ℕ) → IsAnswer file (Err Memory)
memory_answer file = record { exact = tt; stands = tt; sound = λ db stands. tt }

-- of one whose payloads aren't all whole
pub damaged_answer : (file : List ℕ) (found : Found) (fault : CheckFault) → opened file ≡ Ok found → Stops fault (test_found (test_payloads file) found) → IsAnswer file (Err fault)
damaged_answer file found fault opens stops = record {
  exact = subst (λ (step : Result Sound CheckFault). Answers (Err fault) step) (sym (checked_is file found opens)) (stops_then fault (test_found (test_payloads file) found) _ stops);
  stands = tt;
  sound = λ db stands. passes_on fault (test_found (test_payloads file) found) (Ok (sound_database db)) (standing_whole file found db opens stands) stops;
}

-- of one that has a wrong overlap
pub wrong_answer : (file : List ℕ) (found : Found) (page : ℕ) → opened file ≡ Ok found → IsFound found → AreRowsChecked file found.catalog.arrays found.directories None (Some page) → IsAnswer file (Err (WrongOverlap page))
wrong_answer file found page opens is are =
    let fit : test_found (test_overlaps file) found ≡ Err (WrongOverlap page) = sym are.overlaps in
    record {
      exact = checked_is file found opens ∙ passed (test_found (test_payloads file) found) _ are.whole ∙ ap (λ (t : Tested). behind t (Ok (sound_found found))) fit;
      stands = tt;
      sound = λ db stands. passes_on (WrongOverlap page) (test_found (test_overlaps file) found) (Ok (sound_database db)) (standing_fits file found db opens is are.small stands) fit;
    }

-- and of one that is sound
pub sound_answer : (file : List ℕ) (found : Found) (sound : Sound) → opened file ≡ Ok found → IsFound found → AreRowsChecked file found.catalog.arrays found.directories None None → sound ≡ sound_found found → IsAnswer file (Ok sound)
sound_answer file found sound opens is are same =
    let fit : test_found (test_overlaps file) found ≡ Ok tt = sym are.overlaps in
    let passes = found_passes file found is are.whole are.small fit in
    let found_db = checked_files_stand file found opens passes in
    let counts : (db : Database) → Stands file db → sound ≡ sound_database db = λ db stands. same ∙ sound_same file found db passes (held file found db opens stands) stands.database.rows in
    record {
      exact = checked_is file found opens ∙ passed (test_found (test_payloads file) found) _ are.whole ∙ passed (test_found (test_overlaps file) found) _ fit ∙ ap Ok (sym same);
      stands = (found_db.0, found_db.1, counts found_db.0 found_db.1);
      sound = λ db stands. ap Ok (sym (counts db stands));
    }

-- ---- by the slices that were checked

pub rows_checked : (file : List ℕ) (arrays slice : List CatalogArray) (rows slice' : List (List Directory)) (old new now : Option ℕ) → slice ≡ arrays → slice' ≡ rows → new ≡ now → AreRowsChecked file slice slice' old new → AreRowsChecked file arrays rows old now
rows_checked file arrays slice rows slice' old new now same same' is are =
    subst (AreRowsChecked file arrays rows old) is (subst (λ (rs : List (List Directory)). AreRowsChecked file arrays rs old new) same' (subst (λ (some : List CatalogArray). AreRowsChecked file some slice' old new) same are))

pub damaged_found : (file : List ℕ) (found : Found) (slice : List CatalogArray) (slice' : List (List Directory)) (fault : CheckFault) → opened file ≡ Ok found → slice ≡ found.catalog.arrays → slice' ≡ found.directories
    → Stops fault (test_rows (test_payloads file) slice slice') → IsAnswer file (Err fault)
damaged_found file found slice slice' fault opens same same' stops =
    damaged_answer file found fault opens
    (subst (λ (rs : List (List Directory)). Stops fault (test_rows (test_payloads file) found.catalog.arrays rs)) same' (subst (λ (some : List CatalogArray). Stops fault (test_rows (test_payloads file) some slice')) same stops))
