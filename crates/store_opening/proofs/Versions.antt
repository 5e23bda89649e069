-- The versions that are found: each has a directory of its array's schema, and pages with its payloads'.
use Rattle.std.proofs.Common.{◌≡◌, ℕ, Bool, true, false, ◌||◌, List, [], ◌∷◌, ◌++◌, length, map, Option, Some, IfSome, IsTrue, refl, sym, ◌∙◌, ap, subst, append_assoc, arith}
use Rattle.std.specs.Prelude.{nat_eq}
use Rattle.std.specs.List.{AllByRecursion, AllZip, flat_map}
use Rattle.std.proofs.lemmas.Bool.Decides.{nat_tests}
use Rattle.std.proofs.lemmas.List.{map-append}
use Rattle.std.proofs.lemmas.List.Folds.{list_any-append}
use Rattle.array_rows.specs.Boxes.{by_pairs}
use Rattle.cell_values.specs.declared.schema.Schema.{Schema}
use Rattle.chunk_map.specs.declared.directory.DirEntry.{DirEntry}
use Rattle.chunk_map.specs.declared.directory.Directory.{Directory}
use Rattle.chunk_map.specs.Spelling.{IsDirectory}
use Rattle.logical_plan.specs.declared.names.NameEntry.{NameEntry}
use Rattle.plan_changes.specs.Changes.{entry_named}
use Rattle.version_catalog.specs.declared.rules.catalog.BlobAt.{BlobAt}
use Rattle.version_catalog.specs.declared.rules.catalog.CatalogArray.{CatalogArray}
use Rattle.version_catalog.specs.Catalogs.{HasDirectories, names_in}
use Rattle.version_reaper.specs.PageSets.{holds}
use Rattle.file_meaning.specs.Opening.{all_of, version_pages}
use Rattle.file_meaning.specs.declared.meaning.found.Found.{Found}
use Rattle.file_meaning.proofs.Apart.{both_all}
use Rattle.file_reading.specs.Reading.{AreDirectories, HaveCores, IsFound}
use Rattle.store_opening.specs.Bases.{array_pages, pages_named, versions_pages}
use Rattle.store_versions.specs.Rows.{array_rows, first_rows}
use Rattle.store_versions.specs.Seen.{version_of}
use Rattle.store_versions.specs.Versions.{MadeVersion}
use Rattle.store_state.specs.Inner.Keeping.{AreDirectoriesOf, HasItsPages, IsDirectoryOf}
use Rattle.store_opening.specs.Opened.{versions_of}
use Rattle.store_opening.proofs.Names.{found_each}

abbrev pub entries_in : List CatalogArray → List NameEntry
entries_in arrays = map (λ (array : CatalogArray). array.entry) arrays

-- ---- directories of a schema

abbrev IsMade : List NameEntry → MadeVersion → Type 0
IsMade all v = IfSome (entry_named all v.name) (λ entry. IsDirectoryOf entry.schema v.directory)

directories_by : (schema : Schema) (row : List Directory) → AllByRecursion (IsDirectory (length schema.dimensions)) row → AllByRecursion (HaveCores schema.dimensions) row → AllByRecursion (IsDirectoryOf schema) row
directories_by schema [] spelled cores = tt
directories_by schema (directory ∷ row) spelled cores = (record { spelled = spelled.0; cores = cores.0 }, directories_by schema row spelled.1 cores.1)

array_made : (all : List NameEntry) (entry : NameEntry) → entry_named all entry.name ≡ Some entry → (numbers : List ℕ) (row : List Directory) → AllByRecursion (IsDirectoryOf entry.schema) row
    → AllByRecursion (IsMade all) (map version_of (array_rows entry.name numbers row))
array_made all entry named [] row are = tt
array_made all entry named (n ∷ numbers) [] are = tt
array_made all entry named (n ∷ numbers) (directory ∷ row) are =
    (subst (λ (o : Option NameEntry). IfSome o (λ e. IsDirectoryOf e.schema directory)) (sym named) are.0, array_made all entry named numbers row are.1)

all_made : (all : List NameEntry) (arrays : List CatalogArray) (rows : List (List Directory)) → AllByRecursion (λ e. entry_named all e.name ≡ Some e) (entries_in arrays) → AllZip AreDirectories arrays rows
    → AllZip (λ (array : CatalogArray) (row : List Directory). AllByRecursion (HaveCores array.entry.schema.dimensions) row) arrays rows → AllByRecursion (IsMade all) (map version_of (first_rows (entries_in arrays) rows))
all_made all [] rows named are cores = tt
all_made all (array ∷ arrays) [] named are cores = tt
all_made all (array ∷ arrays) (row ∷ rows) named are cores =
    let entry = array.entry in
    let first = array_made all entry named.0 entry.versions row (directories_by entry.schema row are.0.each cores.0) in
    subst (AllByRecursion (IsMade all)) (sym (map-append version_of (array_rows entry.name entry.versions row) (first_rows (entries_in arrays) rows)))
    (both_all (IsMade all) (map version_of (array_rows entry.name entry.versions row)) (map version_of (first_rows (entries_in arrays) rows)) first (all_made all arrays rows named.1 are.1 cores.1))

pub directories_made : (found : Found) → IsFound found → AreDirectoriesOf (names_in found.catalog) (versions_of found)
directories_made found is =
    let arrays = found.catalog.arrays in
    all_made (entries_in arrays) arrays found.directories (found_each (entries_in arrays) is.catalog.names.rising) is.directories is.cores

-- ---- pages with the payloads'

itself : (n : ℕ) → nat_eq n n ≡ true
itself n = grind (arith, nat_tests)

or_true : (a b : Bool) → b ≡ true → (a || b) ≡ true
or_true true b is = refl
or_true false b is = is

-- each of some pages is among these, wherever they stand
within : (front pages : List ℕ) → AllByRecursion (λ page. IsTrue (holds (front ++ pages) page)) pages
within front [] = tt
within front (p ∷ pages) =
    let here : holds (p ∷ pages) p ≡ true = ap (λ (b : Bool). b || holds pages p) (itself p) in
    let there : holds (front ++ p ∷ pages) p ≡ true = list_any-append (λ other. nat_eq other p) front (p ∷ pages) ∙ or_true (holds front p) (holds (p ∷ pages) p) here in
    (there, subst (λ (all : List ℕ). AllByRecursion (λ page. IsTrue (holds all page)) pages) (append_assoc front (p ∷ []) pages) (within (front ++ p ∷ []) pages))

zip_append : {A B : Type 0} (P : A → B → Type 0) (xs more_xs : List A) (ys more_ys : List B) → AllZip P xs ys → AllZip P more_xs more_ys → AllZip P (xs ++ more_xs) (ys ++ more_ys)
zip_append P [] more_xs [] more_ys all more = more
zip_append P [] more_xs (y ∷ ys) more_ys all more = absurd all
zip_append P (x ∷ xs) more_xs [] more_ys all more = absurd all
zip_append P (x ∷ xs) more_xs (y ∷ ys) more_ys all more = (all.0, zip_append P xs more_xs ys more_ys all.1 more)

array_paged : (name : List ℕ) (numbers : List ℕ) (blobs : List BlobAt) (row : List Directory) → length blobs ≡ length numbers → length row ≡ length numbers
    → AllZip HasItsPages (by_pairs (pages_named name) numbers (by_pairs version_pages blobs row)) (map version_of (array_rows name numbers row))
array_paged name [] blobs row one same = tt
array_paged name (n ∷ numbers) [] row one same = absurd (omega (arith, one))
array_paged name (n ∷ numbers) (at ∷ blobs) [] one same = absurd (omega (arith, same))
array_paged name (n ∷ numbers) (at ∷ blobs) (directory ∷ row) one same = (
  record { name = refl; version = refl; payloads = within at.pages (flat_map (λ (e : DirEntry). e.pages) directory.entries) },
  array_paged name numbers blobs row (omega (arith, one)) (omega (arith, same)),
)

all_paged : (arrays : List CatalogArray) (rows : List (List Directory)) → AllByRecursion HasDirectories arrays → AllZip AreDirectories arrays rows
    → AllZip HasItsPages (all_of (by_pairs array_pages arrays rows)) (map version_of (first_rows (entries_in arrays) rows))
all_paged [] rows blobs are = tt
all_paged (array ∷ arrays) [] blobs are = tt
all_paged (array ∷ arrays) (row ∷ rows) blobs are =
    let entry = array.entry in
    subst (AllZip HasItsPages (array_pages array row ++ all_of (by_pairs array_pages arrays rows))) (sym (map-append version_of (array_rows entry.name entry.versions row) (first_rows (entries_in arrays) rows)))
    (zip_append HasItsPages (array_pages array row) (all_of (by_pairs array_pages arrays rows)) (map version_of (array_rows entry.name entry.versions row)) (map version_of (first_rows (entries_in arrays) rows))
    (array_paged entry.name entry.versions array.directories row blobs.0.one_each are.0.count) (all_paged arrays rows blobs.1 are.1))

pub versions_paged : (found : Found) → IsFound found → AllZip HasItsPages (versions_pages found) (versions_of found)
versions_paged found is = all_paged found.catalog.arrays found.directories is.catalog.each is.directories
