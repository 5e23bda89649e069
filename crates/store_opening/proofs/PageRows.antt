-- The pages of the versions that are found, array by array.
use Rattle.std.proofs.Common.{◌≡◌, ℕ, Bool, false, cond, List, [], ◌∷◌, ◌++◌, length, map, refl, sym, ◌∙◌, ap, append-nil, arith}
use Rattle.std.specs.List.{AllByRecursion, AllZip, filter}
use Rattle.std.specs.Str.{bytes_eq}
use Rattle.std.proofs.lemmas.List.Elements.{filter-append}
use Rattle.array_rows.specs.Boxes.{by_pairs}
use Rattle.chunk_map.specs.declared.directory.Directory.{Directory}
use Rattle.logical_plan.specs.declared.names.NameEntry.{NameEntry}
use Rattle.plan_changes.specs.Stored.{NamesRise}
use Rattle.plan_changes.proofs.StoredLaws.{names_in, tail_rises}
use Rattle.version_catalog.specs.declared.rules.catalog.CatalogArray.{CatalogArray}
use Rattle.version_catalog.specs.Catalogs.{HasDirectories}
use Rattle.event_core.specs.declared.state.VersionPages.{VersionPages}
use Rattle.event_core.specs.History.{is_pages_of}
use Rattle.store_versions.proofs.Agree.{name_refl}
use Rattle.file_meaning.specs.Opening.{all_of, version_pages}
use Rattle.file_meaning.specs.declared.meaning.found.Found.{Found}
use Rattle.file_reading.specs.Reading.{AreDirectories, IsFound}
use Rattle.store_state.specs.Rows.{pages_in, pages_of_rows}
use Rattle.store_opening.specs.Bases.{array_pages, pages_named, versions_pages}
use Rattle.store_opening.proofs.NamedLaws.{pairs_length}
use Rattle.store_opening.proofs.Names.{all_apart, name_sym, of_map}
use Rattle.store_opening.proofs.Versions.{entries_in}

-- ---- the pages of one array

own_kept : (name numbers : List ℕ) (lists : List (List ℕ)) → filter (is_pages_of name) (by_pairs (pages_named name) numbers lists) ≡ by_pairs (pages_named name) numbers lists
own_kept name [] lists = refl
own_kept name (n ∷ numbers) [] = refl
own_kept name (n ∷ numbers) (pages ∷ lists) =
    let rest = by_pairs (pages_named name) numbers lists in
    let first = pages_named name n pages in
    ap (λ (b : Bool). cond b (first ∷ filter (is_pages_of name) rest) (filter (is_pages_of name) rest)) (name_refl name)
    ∙ ap (λ (vs : List VersionPages). first ∷ vs) (own_kept name numbers lists)

others_out : (name other numbers : List ℕ) (lists : List (List ℕ)) → bytes_eq name other ≡ false → filter (is_pages_of other) (by_pairs (pages_named name) numbers lists) ≡ []
others_out name other [] lists apart = refl
others_out name other (n ∷ numbers) [] apart = refl
others_out name other (n ∷ numbers) (pages ∷ lists) apart =
    let rest = filter (is_pages_of other) (by_pairs (pages_named name) numbers lists) in
    ap (λ (b : Bool). cond b (pages_named name n pages ∷ rest) rest) apart ∙ others_out name other numbers lists apart

pages_back : (name numbers : List ℕ) (lists : List (List ℕ)) → length lists ≡ length numbers → map (λ v. v.pages) (by_pairs (pages_named name) numbers lists) ≡ lists
pages_back name [] [] same = refl
pages_back name [] (pages ∷ lists) same = absurd (omega (arith, same))
pages_back name (n ∷ numbers) [] same = absurd (omega (arith, same))
pages_back name (n ∷ numbers) (pages ∷ lists) same = ap (λ (ls : List (List ℕ)). pages ∷ ls) (pages_back name numbers lists (omega (arith, same)))

-- ---- of all arrays

abbrev all_pages : List CatalogArray → List (List Directory) → List VersionPages
all_pages arrays rows = all_of (by_pairs array_pages arrays rows)

none_later : (name : List ℕ) (arrays : List CatalogArray) (rows : List (List Directory)) → AllByRecursion (λ array. bytes_eq array.entry.name name ≡ false) arrays → filter (is_pages_of name) (all_pages arrays rows) ≡ []
none_later name [] rows others = refl
none_later name (array ∷ arrays) [] others = refl
none_later name (array ∷ arrays) (row ∷ rows) others =
    filter-append (is_pages_of name) (array_pages array row) (all_pages arrays rows)
    ∙ ap (λ (vs : List VersionPages). vs ++ filter (is_pages_of name) (all_pages arrays rows)) (others_out array.entry.name name array.entry.versions (by_pairs version_pages array.directories row) others.0)
    ∙ none_later name arrays rows others.1

abbrev own_pages : List VersionPages → CatalogArray → List (List ℕ)
own_pages all array = map (λ (v : VersionPages). v.pages) (filter (is_pages_of array.entry.name) all)

-- those of other arrays before them go
past_first : (array : CatalogArray) (row : List Directory) (all : List VersionPages) (arrays : List CatalogArray) → AllByRecursion (λ other. bytes_eq other.entry.name array.entry.name ≡ false) arrays
    → map (own_pages (array_pages array row ++ all)) arrays ≡ map (own_pages all) arrays
past_first array row all [] others = refl
past_first array row all (other ∷ arrays) others =
    let name = other.entry.name in
    let gone = others_out array.entry.name name array.entry.versions (by_pairs version_pages array.directories row) (name_sym array.entry.name name ∙ others.0) in
    let first = ap (map (λ (v : VersionPages). v.pages)) (filter-append (is_pages_of name) (array_pages array row) all ∙ ap (λ (vs : List VersionPages). vs ++ filter (is_pages_of name) all) gone) in
    ap (λ (ls : List (List ℕ)). ls ∷ map (own_pages (array_pages array row ++ all)) arrays) first ∙ ap (λ (rs : List (List (List ℕ))). own_pages all other ∷ rs) (past_first array row all arrays others.1)

by_arrays : (arrays : List CatalogArray) (rows : List (List Directory)) → NamesRise (names_in (entries_in arrays)) → AllByRecursion HasDirectories arrays → AllZip AreDirectories arrays rows
    → by_pairs (λ (array : CatalogArray) (row : List Directory). by_pairs version_pages array.directories row) arrays rows ≡ map (own_pages (all_pages arrays rows)) arrays
by_arrays [] rows rise blobs are = refl
by_arrays (array ∷ arrays) [] rise blobs are = absurd are
by_arrays (array ∷ arrays) (row ∷ rows) rise blobs are =
    let name = array.entry.name in
    let numbers = array.entry.versions in
    let lists = by_pairs version_pages array.directories row in
    let rest = all_pages arrays rows in
    let others = of_map (λ (e : NameEntry). bytes_eq e.name name ≡ false) (λ (a : CatalogArray). a.entry) arrays (all_apart name (entries_in arrays) rise) in
    let kept : filter (is_pages_of name) (array_pages array row ++ rest) ≡ array_pages array row =
    filter-append (is_pages_of name) (array_pages array row) rest
    ∙ ap (λ (vs : List VersionPages). filter (is_pages_of name) (array_pages array row) ++ vs) (none_later name arrays rows others)
    ∙ append-nil (filter (is_pages_of name) (array_pages array row)) ∙ own_kept name numbers lists in
    let count : length lists ≡ length numbers = pairs_length version_pages array.directories row (are.0.count ∙ sym blobs.0.one_each) ∙ blobs.0.one_each in
    let first : own_pages (array_pages array row ++ rest) array ≡ lists = ap (map (λ (v : VersionPages). v.pages)) kept ∙ pages_back name numbers lists count in
    let later = by_arrays arrays rows (tail_rises array.entry (entries_in arrays) rise) blobs.1 are.1 ∙ sym (past_first array row rest arrays others) in
    ap (λ (rs : List (List (List ℕ))). lists ∷ rs) later ∙ ap (λ (ls : List (List ℕ)). ls ∷ map (own_pages (array_pages array row ++ rest)) arrays) (sym first)

pub pages_by_arrays : (found : Found) → IsFound found → pages_of_rows found.catalog found.directories ≡ pages_in found.catalog (versions_pages found)
pages_by_arrays found is = by_arrays found.catalog.arrays found.directories is.catalog.names.rising is.catalog.each is.directories
