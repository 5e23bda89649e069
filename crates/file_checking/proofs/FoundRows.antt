-- What is found in a file: directories of an array's schema, and how many.
use Rattle.std.proofs.Common.{◌≡◌, ◌≤◌, ◌<◌, ◌*◌, ◌-◌, ◌^◌, ℕ, suc, true, List, [], ◌∷◌, length, map, Ok, refl, ◌∙◌, ap, subst, arith}
use Rattle.std.specs.List.{AllByRecursion, AllZip, sum_by}
use Rattle.std.proofs.lemmas.List.Sums.{sum_by-cons}
use Rattle.cell_values.specs.declared.schema.Dimension.{Dimension}
use Rattle.cell_values.specs.declared.schema.Schema.{Schema}
use Rattle.array_geom.specs.Geometry.{has_core}
use Rattle.file_items.specs.Pages.{pages_needed}
use Rattle.file_items.proofs.BytesLaws.{bind_ok, ok_is}
use Rattle.chunk_map.specs.declared.directory.DirEntry.{DirEntry}
use Rattle.chunk_map.specs.declared.directory.Directory.{Directory}
use Rattle.chunk_map.specs.Spelling.{IsDirectory, IsEntry}
use Rattle.plan_changes.specs.Stored.{IsStored, RiseBetween}
use Rattle.version_catalog.specs.declared.rules.catalog.BlobAt.{BlobAt}
use Rattle.version_catalog.specs.declared.rules.catalog.CatalogArray.{CatalogArray}
use Rattle.file_meaning.specs.Opening.{Listed, Row, Rules, directory_from, found_in, opened, row_in, rows_in}
use Rattle.file_meaning.specs.Slots.{slots_in}
use Rattle.file_meaning.specs.declared.meaning.found.Found.{Found}
use Rattle.file_meaning.proofs.Counts.{counts_agree}
use Rattle.file_meaning.proofs.Elsewhere.{AreThere, directory_steps, found_steps, payloads_there, row_steps, rows_steps}
use Rattle.file_reading.specs.Reading.{AreDirectories, HaveCores, IsFound}
use Rattle.file_checking.specs.Inner.Steps.{AreEntriesOf, IsDirectoryOf, IsRowOf}

-- ---- directories

some_pages : (bytes pages : ℕ) → pages ≡ pages_needed bytes → 1 ≤ bytes → 0 < pages
some_pages bytes pages is some = omega (arith, is, some)

entries_of : (schema : Schema) (entries : List DirEntry) → AllByRecursion (IsEntry (length schema.dimensions)) entries → AllByRecursion (λ (entry : DirEntry). has_core schema.dimensions entry.at.items ≡ true) entries → AreEntriesOf schema entries
entries_of schema [] all cores = tt
entries_of schema (e ∷ entries) all cores = (
  record { core = cores.0; count = all.0.payload.count.0 ∙ counts_agree e.length; some = some_pages e.length (length e.pages) all.0.payload.count.0 all.0.payload.some.0 },
  entries_of schema entries all.1 cores.1,
)

directories_of : (schema : Schema) (row : List Directory) → AllByRecursion (IsDirectory (length schema.dimensions)) row → AllByRecursion (HaveCores schema.dimensions) row → AllByRecursion (IsDirectoryOf schema) row
directories_of schema [] all cores = tt
directories_of schema (d ∷ row) all cores = (record { entries = entries_of schema d.entries all.0.each cores.0; rising = all.0.rising }, directories_of schema row all.1 cores.1)

rows_of : (arrays : List CatalogArray) (rows : List (List Directory)) → AllByRecursion IsStored (map (λ (array : CatalogArray). array.entry) arrays) → AllZip AreDirectories arrays rows
    → AllZip (λ (array : CatalogArray) (row : List Directory). AllByRecursion (HaveCores array.entry.schema.dimensions) row) arrays rows → AllZip IsRowOf arrays rows
rows_of [] [] stored are cores = tt
rows_of [] (row ∷ rows) stored are cores = absurd are
rows_of (a ∷ arrays) [] stored are cores = absurd are
rows_of (a ∷ arrays) (row ∷ rows) stored are cores =
    (record { valid = stored.0.schema; each = directories_of a.entry.schema row are.0.each cores.0 }, rows_of arrays rows stored.1 are.1 cores.1)

pub found_rows : (found : Found) → IsFound found → AllZip IsRowOf found.catalog.arrays found.directories
found_rows found is = rows_of found.catalog.arrays found.directories is.catalog.names.each is.directories is.cores

-- ---- how many

few_between : (low high : ℕ) (numbers : List ℕ) → RiseBetween low high numbers → length numbers ≤ high - low
few_between low high [] rise = omega arith
few_between low high (n ∷ numbers) rise = let later = few_between n high numbers rise.2 in omega (arith, rise.0, rise.1, later)

few_versions : (arrays : List CatalogArray) (rows : List (List Directory)) → AllByRecursion IsStored (map (λ (array : CatalogArray). array.entry) arrays) → AllZip AreDirectories arrays rows
    → sum_by (λ (row : List Directory). length row) rows ≤ 65536 * length arrays
few_versions [] [] stored are = omega arith
few_versions [] (row ∷ rows) stored are = absurd are
few_versions (a ∷ arrays) [] stored are = absurd are
few_versions (a ∷ arrays) (row ∷ rows) stored are =
    let step = sum_by-cons (λ (r : List Directory). length r) row rows in
    let first = few_between 0 a.entry.next a.entry.versions stored.0.versions in
    omega (arith, step, first, stored.0.next.1, are.0.count, few_versions arrays rows stored.1 are.1)

same_count : (arrays : List CatalogArray) → length (map (λ (array : CatalogArray). array.entry) arrays) ≡ length arrays
same_count [] = refl
same_count (a ∷ arrays) = ap suc (same_count arrays)

pub few_arrays : (found : Found) → IsFound found → length found.catalog.arrays ≤ 1024
few_arrays found is = omega (arith, is.catalog.names.count, same_count found.catalog.arrays)

pub few_found : (found : Found) → IsFound found → sum_by (λ (row : List Directory). length row) found.directories < 2 ^ 64
few_found found is =
    let few = few_versions found.catalog.arrays found.directories is.catalog.names.each is.directories in
    omega (arith, few, few_arrays found is)

-- ---- the pages of payloads lie within a file that opens

abbrev Have : List ℕ → List Directory → Type 0
Have file row = AllByRecursion (λ (d : Directory). AreThere file d.entries) row

directory_there : (file : List ℕ) (rules : Rules) (dims : List Dimension) (seen : List DirEntry) (taken : List ℕ) (at : BlobAt) (listed : Listed) → directory_from file rules dims seen taken at ≡ Ok listed → AreThere file listed.directory.entries
directory_there file rules dims seen taken at listed is =
    let s = directory_steps file rules dims seen taken at listed is in
    subst (λ (l : Listed). AreThere file l.directory.entries) s.is (payloads_there file rules.sequence dims _ seen s.directory.entries s.own s.all s.payloads)

row_there : (file : List ℕ) (rules : Rules) (dims : List Dimension) (blobs : List BlobAt) (seen : List DirEntry) (taken : List ℕ) (row : Row) → row_in file rules dims seen taken blobs ≡ Ok row → Have file row.directories
row_there file rules dims [] seen taken row is =
    let none : record { directories = []; taken = taken } ≡ row = ok_is (record { directories = []; taken = taken }) row is in
    subst (λ (r : Row). Have file r.directories) none tt
row_there file rules dims (at ∷ blobs) seen taken row is =
    let s = row_steps file rules dims seen taken at blobs row is in
    let first = directory_there file rules dims seen taken at s.first s.found in
    let later = row_there file rules dims blobs _ s.first.taken s.later s.rest in
    subst (λ (r : Row). Have file r.directories) s.is (first, later)

rows_there : (file : List ℕ) (rules : Rules) (arrays : List CatalogArray) (taken : List ℕ) (rows : List (List Directory)) → rows_in file rules taken arrays ≡ Ok rows → AllByRecursion (Have file) rows
rows_there file rules [] taken rows is =
    let none : [] ≡ rows = ok_is [] rows is in
    subst (AllByRecursion (Have file)) none tt
rows_there file rules (array ∷ arrays) taken rows is =
    let s = rows_steps file rules taken array arrays rows is in
    let first = row_there file rules array.entry.schema.dimensions array.directories [] taken s.row s.found in
    let later = rows_there file rules arrays s.row.taken s.later s.rest in
    subst (AllByRecursion (Have file)) s.is (first, later)

pub payloads_lie_within : (file : List ℕ) (found : Found) → opened file ≡ Ok found → AllByRecursion (Have file) found.directories
unfolding opened
payloads_lie_within file found is =
    let a = bind_ok (slots_in file) (λ slots. found_in file slots) found is in
    let s = found_steps file a.0 found a.2 in
    rows_there file _ s.logged.catalog.arrays s.logged.taken found.directories s.rows
