-- The versions that a catalogue names, and those of which pages are known.
use Rattle.std.proofs.Common.{◌≡◌, ℕ, suc, Bool, true, false, List, [], ◌∷◌, ◌++◌, length, map, refl, sym, ◌∙◌, ap, arith}
use Rattle.std.specs.Prelude.{◌&&◌, ◌||◌, nat_eq}
use Rattle.std.specs.List.{AllByRecursion, AllZip, list_any}
use Rattle.std.specs.Str.{bytes_eq}
use Rattle.std.proofs.lemmas.List.Folds.{list_any-append}
use Rattle.array_rows.specs.Boxes.{by_pairs}
use Rattle.chunk_map.specs.declared.directory.Directory.{Directory}
use Rattle.logical_plan.specs.declared.names.NameEntry.{NameEntry}
use Rattle.plan_changes.specs.Changes.{is_named}
use Rattle.version_catalog.specs.declared.rules.catalog.BlobAt.{BlobAt}
use Rattle.version_catalog.specs.declared.rules.catalog.CatalogArray.{CatalogArray}
use Rattle.version_catalog.specs.declared.rules.catalog.Catalog.{Catalog}
use Rattle.version_catalog.specs.Catalogs.{HasDirectories, IsCatalog, names_in}
use Rattle.version_reaper.specs.PageSets.{holds}
use Rattle.event_core.specs.declared.state.VersionPages.{VersionPages}
use Rattle.event_core.specs.Agree.{HavePages, can_name, has_version}
use Rattle.event_core.specs.History.{is_pages_of}
use Rattle.event_core.specs.Legal.{BeginsWithNames}
use Rattle.file_meaning.specs.Opening.{all_of, version_pages}
use Rattle.file_meaning.specs.declared.meaning.found.Found.{Found}
use Rattle.file_reading.specs.Reading.{AreDirectories, IsFound}
use Rattle.store_opening.specs.Bases.{array_pages, base_core, pages_named, versions_pages}
use Rattle.store_opening.specs.Laws.{BasesBegin, DirectoriesAreCounted}

both_ways : (b x y : Bool) → ((b && x) || (b && y)) ≡ (b && (x || y))
both_ways true x y = refl
both_ways false x y = refl

never : (b : Bool) → false ≡ (b && false)
never true = refl
never false = refl

-- the versions of one array
named_pages : (array name : List ℕ) (version : ℕ) (versions : List ℕ) (pages : List (List ℕ)) → length pages ≡ length versions
    → has_version (by_pairs (pages_named array) versions pages) name version ≡ (bytes_eq array name && holds versions version)
named_pages array name version [] pages same = never (bytes_eq array name)
named_pages array name version (v ∷ versions) [] same = absurd (omega (arith, same))
named_pages array name version (v ∷ versions) (ps ∷ pages) same =
    ap (λ (b : Bool). (bytes_eq array name && nat_eq v version) || b) (named_pages array name version versions pages (omega (arith, same)))
    ∙ both_ways (bytes_eq array name) (nat_eq v version) (holds versions version)

pub pairs_length : {A B C : Type 0} (f : A → B → C) (xs : List A) (ys : List B) → length ys ≡ length xs → length (by_pairs f xs ys) ≡ length xs
pairs_length f [] ys same = refl
pairs_length f (x ∷ xs) [] same = absurd (omega (arith, same))
pairs_length f (x ∷ xs) (y ∷ ys) same = ap suc (pairs_length f xs ys (omega (arith, same)))

array_named : (array : CatalogArray) (row : List Directory) (name : List ℕ) (version : ℕ) → HasDirectories array → AreDirectories array row
    → has_version (array_pages array row) name version ≡ (is_named name array.entry && holds array.entry.versions version)
array_named array row name version blobs are =
    let same : length row ≡ length array.directories = are.count ∙ sym blobs.one_each in
    named_pages array.entry.name name version array.entry.versions (by_pairs version_pages array.directories row) (pairs_length version_pages array.directories row same ∙ blobs.one_each)

have_pages : (name : List ℕ) (version : ℕ) (arrays : List CatalogArray) (rows : List (List Directory)) → AllByRecursion HasDirectories arrays → AllZip AreDirectories arrays rows
    → list_any (λ (entry : NameEntry). is_named name entry && holds entry.versions version) (map (λ (a : CatalogArray). a.entry) arrays) ≡ has_version (all_of (by_pairs array_pages arrays rows)) name version
have_pages name version [] [] blobs are = refl
have_pages name version [] (row ∷ rows) blobs are = absurd are
have_pages name version (array ∷ arrays) [] blobs are = absurd are
have_pages name version (array ∷ arrays) (row ∷ rows) blobs are =
    ap (λ (b : Bool). b || list_any (λ (entry : NameEntry). is_named name entry && holds entry.versions version) (map (λ (a : CatalogArray). a.entry) arrays)) (sym (array_named array row name version blobs.0 are.0))
    ∙ ap (λ (b : Bool). has_version (array_pages array row) name version || b) (have_pages name version arrays rows blobs.1 are.1)
    ∙ sym (list_any-append (λ (v : VersionPages). is_pages_of name v && nat_eq v.version version) (array_pages array row) (all_of (by_pairs array_pages arrays rows)))

pub bases_begin : BasesBegin
bases_begin found log limit is = record {
  base = record { pins = refl; entries = refl; free = refl };
  names = is.catalog.names;
  pages = λ name version. have_pages name version found.catalog.arrays found.directories is.catalog.each is.directories;
}

counted : (arrays : List CatalogArray) (rows : List (List Directory)) → AllZip AreDirectories arrays rows
    → map (λ (entry : NameEntry). length entry.versions) (map (λ (a : CatalogArray). a.entry) arrays) ≡ map (λ (row : List Directory). length row) rows
counted [] [] are = refl
counted [] (row ∷ rows) are = absurd are
counted (array ∷ arrays) [] are = absurd are
counted (array ∷ arrays) (row ∷ rows) are = ap (λ (n : ℕ). n ∷ map (λ (entry : NameEntry). length entry.versions) (map (λ (a : CatalogArray). a.entry) arrays)) (sym are.0.count) ∙ ap (λ (ns : List ℕ). length row ∷ ns) (counted arrays rows are.1)

pub directories_are_counted : DirectoriesAreCounted
directories_are_counted found is = counted found.catalog.arrays found.directories is.directories
