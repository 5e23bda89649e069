-- The pages follow a change as the versions do.
use Rattle.std.proofs.Common.{◌≡◌, ◌∙◌, ℕ, Bool, true, false, cond, nat_eq, List, [], ◌∷◌, map, length, refl, ap, sym, subst}
use Rattle.std.specs.Prelude.{IsTrue}
use Rattle.std.specs.List.{AllByRecursion, AllZip, filter}
use Rattle.std.specs.Str.{bytes_eq}
use Rattle.std.proofs.lemmas.Bool.{or_left, or_right}
use Rattle.std.proofs.lemmas.List.{length-map}
use Rattle.array_rows.specs.Boxes.{by_pairs}
use Rattle.logical_plan.specs.declared.names.NameEntry.{NameEntry}
use Rattle.logical_plan.specs.declared.names.Names.{Names}
use Rattle.file_meaning.specs.Change.{Change}
use Rattle.file_meaning.specs.Change.TheVariants.{Create, Store, Insert, Remove, RemoveVersions}
use Rattle.file_meaning.specs.Changes.{name_of, next_of}
use Rattle.file_meaning.proofs.StoredLaws.{all_less}
use Rattle.version_reaper.specs.PageSets.{holds}
use Rattle.file_meaning.specs.CatalogArray.{CatalogArray}
use Rattle.file_meaning.specs.Catalog.{Catalog}
use Rattle.file_meaning.specs.Catalogs.{HasDirectories, names_in}
use Rattle.file_meaning.specs.Changed.{after_change}
use Rattle.file_meaning.specs.Records.{entries_of}
use Rattle.store_versions.specs.VersionPages.{VersionPages}
use Rattle.store_versions.specs.History.{is_pages_of, pages_after}
use Rattle.store_versions.specs.Pages.{has_page}
use Rattle.file_meaning.specs.Opening.{all_of, row_pages}
use Rattle.file_meaning.proofs.Apart.{both_all}
use Rattle.store_state.specs.LaidPremises.{pages_made}
use Rattle.file_meaning.specs.Next.{Rows, blob_of}
use Rattle.store_versions.specs.Versions.{MadeVersion, is_of}
use Rattle.store_state.specs.Rows.{directories_in, pages_in, pages_of_rows, IsPagesOf}
use Rattle.store_state.specs.RowsLaws.{StandInOrder, PagesFollow, FoundPagesAreOfVersions}
use Rattle.store_state.proofs.Filters.{itself}
use Rattle.store_state.proofs.Items.{rows_of, items_after, lists_after, IsOrdered, Stand, rows_follow}
use Rattle.store_state.proofs.RowsDirectories.{name_of_version, number_of_version, directory_of_version, none_of, has_its, directories_changed}
use Rattle.store_state.proofs.PageRows.{Fits, page_row, pages_changed}

abbrev name_of_pages : VersionPages → List ℕ
name_of_pages v = v.name

abbrev number_of_pages : VersionPages → ℕ
number_of_pages v = v.version

-- ---- what stands

same_numbers : (n : List ℕ) (pages : List VersionPages) (versions : List MadeVersion) → AllZip IsPagesOf pages versions
    → map number_of_pages (filter (is_pages_of n) pages) ≡ map number_of_version (filter (is_of n) versions)
same_numbers n [] [] zip = refl
same_numbers n [] (v ∷ versions) zip = absurd zip
same_numbers n (p ∷ pages) [] zip = absurd zip
same_numbers n (p ∷ pages) (v ∷ versions) zip =
    ap (λ (m : List ℕ). map number_of_pages (cond (bytes_eq m n) (p ∷ filter (is_pages_of n) pages) (filter (is_pages_of n) pages))) zip.0.name
    ∙ by_test (is_of n v) (same_numbers n pages versions zip.1)
  where
    by_test : (b : Bool) → map number_of_pages (filter (is_pages_of n) pages) ≡ map number_of_version (filter (is_of n) versions)
        → map number_of_pages (cond b (p ∷ filter (is_pages_of n) pages) (filter (is_pages_of n) pages)) ≡ map number_of_version (cond b (v ∷ filter (is_of n) versions) (filter (is_of n) versions))
    by_test true later = let first = zip.0.version in λ i. first i ∷ later i
    by_test false later = later

no_image : {A B : Type 0} (f : A → B) (xs : List A) → map f xs ≡ [] → xs ≡ []
no_image f [] none = refl
no_image f (x ∷ xs) none = absurd cc

orders_shared : (pages : List VersionPages) (versions : List MadeVersion) (es : List NameEntry) → AllZip IsPagesOf pages versions
    → AllByRecursion (IsOrdered name_of_version number_of_version versions) es → AllByRecursion (IsOrdered name_of_pages number_of_pages pages) es
orders_shared pages versions [] zip all = tt
orders_shared pages versions (e ∷ es) zip all = (same_numbers e.name pages versions zip ∙ all.0, orders_shared pages versions es zip all.1)

pages_stand : (catalog : Catalog) (versions : List MadeVersion) (pages : List VersionPages) → StandInOrder catalog versions → AllZip IsPagesOf pages versions
    → Stand name_of_pages number_of_pages pages (entries_of catalog.arrays)
pages_stand catalog versions pages stand zip = record {
  stored = stand.stored;
  none = λ n none. no_image number_of_pages (filter (is_pages_of n) pages) (same_numbers n pages versions zip ∙ ap (map number_of_version) (none_of (names_in catalog) versions n stand.have none));
  order = orders_shared pages versions (entries_of catalog.arrays) zip stand.order;
}

-- ---- what a change makes

abbrev new_pages : Names → Change → List ℕ → VersionPages
new_pages names change used = record { name = name_of change; version = next_of names.arrays (name_of change); pages = used }

after_is : (names : Names) (change : Change) (used : List ℕ) (pages : List VersionPages) → pages_after names change used pages ≡ items_after name_of_pages number_of_pages change (new_pages names change used) pages
after_is names (Create n schema) used pages = refl
after_is names (Store n schema plan) used pages = refl
after_is names (Insert n schema plan) used pages = refl
after_is names (Remove n) used pages = refl
after_is names (RemoveVersions n below) used pages = refl

fits : (arrays : List CatalogArray) (versions : List MadeVersion) → AllByRecursion HasDirectories arrays → AllByRecursion (IsOrdered name_of_version number_of_version versions) (entries_of arrays)
    → AllZip Fits arrays (rows_of name_of_version directory_of_version versions arrays)
fits [] versions has order = tt
fits (a ∷ arrays) versions has order =
    let own = filter (is_of a.entry.name) versions in
    (has.0.one_each ∙ ap length (sym order.0) ∙ length-map own number_of_version ∙ sym (length-map own directory_of_version), fits arrays versions has.1 order.1)

pub pages_follow : PagesFollow
pages_follow catalog versions pages change made directory is stand zip ok of same =
    let next = after_change catalog change (blob_of made) in
    let rows = directories_in catalog versions in
    let followed = rows_follow name_of_pages number_of_pages (λ (v : VersionPages). v.pages) catalog.arrays pages change (blob_of made) (new_pages (names_in catalog) change (pages_made made))
    (pages_stand catalog versions pages stand zip) ok (has_its change made directory of) refl in
    ap (pages_of_rows next) (directories_changed catalog versions change made directory stand ok of)
    ∙ pages_changed catalog.arrays rows change made directory (fits catalog.arrays versions is.each stand.order) of
    ∙ ap (lists_after (entries_of catalog.arrays) change (pages_made made)) same
    ∙ sym followed
    ∙ ap (pages_in next) (sym (after_is (names_in catalog) change (pages_made made) pages))

-- ---- each page that is found is one of a version's

weaker : {A : Type 0} (P Q : A → Type 0) → ((x : A) → P x → Q x) → (xs : List A) → AllByRecursion P xs → AllByRecursion Q xs
weaker P Q h [] all = tt
weaker P Q h (x ∷ xs) all = (h x all.0, weaker P Q h xs all.1)

each_held : (ps : List ℕ) → AllByRecursion (λ p. holds ps p ≡ true) ps
each_held [] = tt
each_held (p ∷ ps) =
    (or_left (nat_eq p p) (holds ps p) (itself p), weaker (λ q. holds ps q ≡ true) (λ q. holds (p ∷ ps) q ≡ true) (λ q. or_right (nat_eq p q) (holds ps q)) ps (each_held ps))

abbrev AreIn : List VersionPages → VersionPages → Type 0
AreIn all v = AllByRecursion (λ p. has_page all p ≡ true) v.pages

each_in : (all : List VersionPages) → AllByRecursion (AreIn all) all
each_in [] = tt
each_in (v ∷ vs) = (
  weaker (λ p. holds v.pages p ≡ true) (λ p. has_page (v ∷ vs) p ≡ true) (λ p. or_left (holds v.pages p) (has_page vs p)) v.pages (each_held v.pages),
  weaker (AreIn vs) (AreIn (v ∷ vs)) (λ w. weaker (λ p. has_page vs p ≡ true) (λ p. has_page (v ∷ vs) p ≡ true) (λ p. or_right (holds v.pages p) (has_page vs p)) w.pages) vs (each_in vs),
)

row_in : (all vs : List VersionPages) → AllByRecursion (AreIn all) vs → AllByRecursion (λ p. has_page all p ≡ true) (all_of (map (λ v. v.pages) vs))
row_in all [] each = tt
row_in all (v ∷ vs) each = both_all (λ p. has_page all p ≡ true) v.pages (all_of (map (λ w. w.pages) vs)) each.0 (row_in all vs each.1)

rows_in : (all : List VersionPages) (arrays : List CatalogArray)
    → AllByRecursion (λ p. has_page all p ≡ true) (all_of (map all_of (map (λ array. map (λ v. v.pages) (filter (is_pages_of array.entry.name) all)) arrays)))
rows_in all [] = tt
rows_in all (a ∷ arrays) =
    let own = filter (is_pages_of a.entry.name) all in
    both_all (λ p. has_page all p ≡ true) (all_of (map (λ v. v.pages) own)) (all_of (map all_of (map (λ array. map (λ v. v.pages) (filter (is_pages_of array.entry.name) all)) arrays)))
    (row_in all own (all_less (AreIn all) (is_pages_of a.entry.name) all (each_in all))) (rows_in all arrays)

all_pages : (arrays : List CatalogArray) (rows : Rows) → map all_of (by_pairs page_row arrays rows) ≡ by_pairs row_pages arrays rows
all_pages [] rows = refl
all_pages (a ∷ arrays) [] = refl
all_pages (a ∷ arrays) (row ∷ rows) = ap (λ (all : List (List ℕ)). row_pages a row ∷ all) (all_pages arrays rows)

pub found_pages_are_of_versions : FoundPagesAreOfVersions
found_pages_are_of_versions catalog rows pages same =
    subst (λ (all : List (List ℕ)). AllByRecursion (λ page. IsTrue (has_page pages page)) (all_of all))
    (ap (map all_of) (sym same) ∙ all_pages catalog.arrays rows)
    (rows_in pages catalog.arrays)
