-- The pages of directories where a catalogue says that they lie, after a change.
use Rattle.std.proofs.Common.{◌≡◌, ◌∙◌, ℕ, zero, suc, Bool, true, false, cond, not, nat_lt, List, [], ◌∷◌, ◌++◌, map, length, drop, Option, None, Some, refl, ap, sym, subst, arith}
use Rattle.std.specs.List.{AllZip, insert, prefix_len, count_by}
use Rattle.cell_values.specs.declared.schema.Schema.{Schema}
use Rattle.array_rows.specs.Boxes.{by_pairs}
use Rattle.chunk_map.specs.declared.directory.Directory.{Directory}
use Rattle.logical_plan.specs.declared.names.NameEntry.{NameEntry}
use Rattle.file_meaning.specs.Change.{Change}
use Rattle.file_meaning.specs.Change.TheVariants.{Create, Store, Insert, Remove, RemoveVersions}
use Rattle.file_meaning.specs.Changes.{has_array, place_of, new_entry, with_array, with_version, without_below}
use Rattle.file_meaning.specs.Stored.{is_before}
use Rattle.file_meaning.proofs.NamesOf.{prefix_map}
use Rattle.file_meaning.specs.BlobAt.{BlobAt}
use Rattle.file_meaning.specs.CatalogArray.{CatalogArray}
use Rattle.file_meaning.specs.Changed.{changed}
use Rattle.file_meaning.specs.Records.{entries_of, is_array, with_new, with_directory, from_version, without}
use Rattle.file_meaning.proofs.Kept.{new_named}
use Rattle.file_meaning.specs.Opening.{version_pages}
use Rattle.store_state.specs.LaidPremises.{pages_made}
use Rattle.file_meaning.specs.Next.{Made, Rows, blob_of}
use Rattle.store_state.specs.Rows.{IsMadeWith}
use Rattle.store_state.proofs.Items.{with_item, without_items, cut_items, lists_after}

-- ---- two lists item by item

pairs_more : {A B C : Type 0} (f : A → B → C) (xs : List A) (ys : List B) (x : A) (y : B) → length xs ≡ length ys → by_pairs f (xs ++ x ∷ []) (ys ++ y ∷ []) ≡ by_pairs f xs ys ++ f x y ∷ []
pairs_more f [] [] x y same = refl
pairs_more f [] (z ∷ ys) x y same = absurd (omega (arith, same))
pairs_more f (w ∷ xs) [] x y same = absurd (omega (arith, same))
pairs_more {C} f (w ∷ xs) (z ∷ ys) x y same = ap (λ (zs : List C). f w z ∷ zs) (pairs_more f xs ys x y (omega (arith, same)))

pairs_left : {A B C : Type 0} (f : A → B → C) (k : ℕ) (xs : List A) (ys : List B) → length xs ≡ length ys → by_pairs f (drop k xs) (drop k ys) ≡ drop k (by_pairs f xs ys)
pairs_left f zero [] ys same = refl
pairs_left f (suc k) [] ys same = refl
pairs_left f k (x ∷ xs) [] same = absurd (omega (arith, same))
pairs_left f zero (x ∷ xs) (y ∷ ys) same = refl
pairs_left f (suc k) (x ∷ xs) (y ∷ ys) same = pairs_left f k xs ys (omega (arith, same))

-- ---- each array has as many directories as the catalogue says

abbrev pub Fits : CatalogArray → List Directory → Type 0
Fits array row = length array.directories ≡ length row

abbrev pub page_row : CatalogArray → List Directory → List (List ℕ)
page_row array row = by_pairs version_pages array.directories row

fits_new : (new : CatalogArray) (arrays : List CatalogArray) (rows : Rows) (i : ℕ) → new.directories ≡ [] → AllZip Fits arrays rows → AllZip Fits (insert arrays i new) (insert rows i [])
fits_new new [] [] zero none fit = (ap length none, tt)
fits_new new [] [] (suc i) none fit = (ap length none, tt)
fits_new new [] (row ∷ rows) i none fit = absurd fit
fits_new new (a ∷ arrays) [] i none fit = absurd fit
fits_new new (a ∷ arrays) (row ∷ rows) zero none fit = (ap length none, fit)
fits_new new (a ∷ arrays) (row ∷ rows) (suc i) none fit = (fit.0, fits_new new arrays rows i none fit.1)

-- ---- one more array

pages_new : (new : CatalogArray) (arrays : List CatalogArray) (rows : Rows) (i : ℕ) → new.directories ≡ [] → AllZip Fits arrays rows
    → by_pairs page_row (insert arrays i new) (insert rows i []) ≡ insert (by_pairs page_row arrays rows) i []
pages_new new [] [] zero none fit = ap (λ (blobs : List BlobAt). by_pairs version_pages blobs [] ∷ []) none
pages_new new [] [] (suc i) none fit = ap (λ (blobs : List BlobAt). by_pairs version_pages blobs [] ∷ []) none
pages_new new [] (row ∷ rows) i none fit = absurd fit
pages_new new (a ∷ arrays) [] i none fit = absurd fit
pages_new new (a ∷ arrays) (row ∷ rows) zero none fit = ap (λ (blobs : List BlobAt). by_pairs version_pages blobs [] ∷ by_pairs page_row (a ∷ arrays) (row ∷ rows)) none
pages_new new (a ∷ arrays) (row ∷ rows) (suc i) none fit = ap (λ (all : List (List (List ℕ))). page_row a row ∷ all) (pages_new new arrays rows i none fit.1)

same_place : (n : List ℕ) (arrays : List CatalogArray) → place_of (entries_of arrays) n ≡ prefix_len (λ array. is_before array.entry.name n) arrays
same_place n arrays = prefix_map (λ (array : CatalogArray). array.entry) (λ entry. is_before entry.name n) arrays

pages_created : (n : List ℕ) (schema : Schema) (arrays : List CatalogArray) (rows : Rows) → AllZip Fits arrays rows
    → by_pairs page_row (with_new n schema arrays) (insert rows (place_of (entries_of arrays) n) []) ≡ insert (by_pairs page_row arrays rows) (place_of (entries_of arrays) n) []
pages_created n schema arrays rows fit =
    let place = prefix_len (λ (array : CatalogArray). is_before array.entry.name n) arrays in
    ap (λ (i : ℕ). by_pairs page_row (with_new n schema arrays) (insert rows i [])) (same_place n arrays)
    ∙ pages_new (record { entry = new_entry n schema; directories = [] }) arrays rows place refl fit
    ∙ ap (λ (i : ℕ). insert (by_pairs page_row arrays rows) i []) (sym (same_place n arrays))

fits_created : (n : List ℕ) (schema : Schema) (arrays : List CatalogArray) (rows : Rows) → AllZip Fits arrays rows → AllZip Fits (with_new n schema arrays) (insert rows (place_of (entries_of arrays) n) [])
fits_created n schema arrays rows fit =
    let place = prefix_len (λ (array : CatalogArray). is_before array.entry.name n) arrays in
    subst (λ (i : ℕ). AllZip Fits (with_new n schema arrays) (insert rows i [])) (sym (same_place n arrays))
    (fits_new (record { entry = new_entry n schema; directories = [] }) arrays rows place refl fit)

-- ---- one more version

pages_by : (b : Bool) (n : List ℕ) (made : Made) (a : CatalogArray) (row : List Directory) → Fits a row
    → page_row (cond b (record { entry = with_version n a.entry; directories = a.directories ++ made.at ∷ [] }) a) (cond b (row ++ made.directory ∷ []) row)
    ≡ cond b (page_row a row ++ version_pages made.at made.directory ∷ []) (page_row a row)
pages_by true n made a row fit = pairs_more version_pages a.directories row made.at made.directory fit
pages_by false n made a row fit = refl

pages_of_made : (n : List ℕ) (made : Made) (arrays : List CatalogArray) (rows : Rows) → AllZip Fits arrays rows
    → by_pairs page_row (map (with_directory n made.at) arrays) (with_item n made.directory (entries_of arrays) rows)
    ≡ with_item n (version_pages made.at made.directory) (entries_of arrays) (by_pairs page_row arrays rows)
pages_of_made n made [] rows fit = refl
pages_of_made n made (a ∷ arrays) [] fit = absurd fit
pages_of_made n made (a ∷ arrays) (row ∷ rows) fit =
    let first = pages_by (is_array n a) n made a row fit.0 in
    let others = pages_of_made n made arrays rows fit.1 in
    λ i. first i ∷ others i

pages_stored : (n : List ℕ) (schema : Schema) (made : Made) (arrays : List CatalogArray) (rows : Rows) (b : Bool) → AllZip Fits arrays rows
    → by_pairs page_row (map (with_directory n made.at) (cond b arrays (with_new n schema arrays)))
    (with_item n made.directory (cond b (entries_of arrays) (with_array n schema (entries_of arrays))) (cond b rows (insert rows (place_of (entries_of arrays) n) [])))
    ≡ with_item n (version_pages made.at made.directory) (cond b (entries_of arrays) (with_array n schema (entries_of arrays)))
    (cond b (by_pairs page_row arrays rows) (insert (by_pairs page_row arrays rows) (place_of (entries_of arrays) n) []))
pages_stored n schema made arrays rows true fit = pages_of_made n made arrays rows fit
pages_stored n schema made arrays rows false fit =
    let place = place_of (entries_of arrays) n in
    let pages = version_pages made.at made.directory in
    ap (λ (es : List NameEntry). by_pairs page_row (map (with_directory n made.at) (with_new n schema arrays)) (with_item n made.directory es (insert rows place []))) (sym (new_named n schema arrays))
    ∙ pages_of_made n made (with_new n schema arrays) (insert rows place []) (fits_created n schema arrays rows fit)
    ∙ ap (λ (es : List NameEntry). with_item n pages es (by_pairs page_row (with_new n schema arrays) (insert rows place []))) (new_named n schema arrays)
    ∙ ap (with_item n pages (with_array n schema (entries_of arrays))) (pages_created n schema arrays rows fit)

-- ---- an array goes

pages_left : (n : List ℕ) (arrays : List CatalogArray) (rows : Rows) → AllZip Fits arrays rows
    → by_pairs page_row (without n arrays) (without_items n (entries_of arrays) rows) ≡ without_items n (entries_of arrays) (by_pairs page_row arrays rows)
pages_left n [] rows fit = refl
pages_left n (a ∷ arrays) [] fit = absurd fit
pages_left n (a ∷ arrays) (row ∷ rows) fit = by_test (is_array n a) (pages_left n arrays rows fit.1)
  where
    by_test : (b : Bool) → by_pairs page_row (without n arrays) (without_items n (entries_of arrays) rows) ≡ without_items n (entries_of arrays) (by_pairs page_row arrays rows)
        → by_pairs page_row (cond (not b) (a ∷ without n arrays) (without n arrays)) (cond b (without_items n (entries_of arrays) rows) (row ∷ without_items n (entries_of arrays) rows))
        ≡ cond b (without_items n (entries_of arrays) (by_pairs page_row arrays rows)) (page_row a row ∷ without_items n (entries_of arrays) (by_pairs page_row arrays rows))
    by_test true later = later
    by_test false later = ap (λ (all : List (List (List ℕ))). page_row a row ∷ all) later

-- ---- some of its versions go

pages_cut_by : (b : Bool) (n : List ℕ) (below gone : ℕ) (a : CatalogArray) (row : List Directory) → Fits a row
    → page_row (cond b (record { entry = without_below n below a.entry; directories = drop gone a.directories }) a) (cond b (drop gone row) row) ≡ cond b (drop gone (page_row a row)) (page_row a row)
pages_cut_by true n below gone a row fit = pairs_left version_pages gone a.directories row fit
pages_cut_by false n below gone a row fit = refl

pages_cut : (n : List ℕ) (below : ℕ) (arrays : List CatalogArray) (rows : Rows) → AllZip Fits arrays rows
    → by_pairs page_row (map (from_version n below) arrays) (cut_items n below (entries_of arrays) rows) ≡ cut_items n below (entries_of arrays) (by_pairs page_row arrays rows)
pages_cut n below [] rows fit = refl
pages_cut n below (a ∷ arrays) [] fit = absurd fit
pages_cut n below (a ∷ arrays) (row ∷ rows) fit =
    let first = pages_cut_by (is_array n a) n below (count_by (λ version. nat_lt version below) a.entry.versions) a row fit.0 in
    let others = pages_cut n below arrays rows fit.1 in
    λ i. first i ∷ others i

-- ---- all changes

-- the pages after a change are those before and the new version's
pub pages_changed : (arrays : List CatalogArray) (rows : Rows) (change : Change) (made : Option Made) (directory : Directory) → AllZip Fits arrays rows → IsMadeWith change made directory
    → by_pairs page_row (changed arrays change (blob_of made)) (lists_after (entries_of arrays) change directory rows) ≡ lists_after (entries_of arrays) change (pages_made made) (by_pairs page_row arrays rows)
pages_changed arrays rows (Create n schema) made directory fit of = pages_created n schema arrays rows fit
pages_changed arrays rows (Store n schema plan) None directory fit of = absurd of
pages_changed arrays rows (Store n schema plan) (Some made) directory fit of =
    ap (λ (d : Directory). by_pairs page_row (changed arrays (Store n schema plan) (Some made.at)) (lists_after (entries_of arrays) (Store n schema plan) d rows)) (sym of)
    ∙ pages_stored n schema made arrays rows (has_array (entries_of arrays) n) fit
pages_changed arrays rows (Insert n schema plan) None directory fit of = absurd of
pages_changed arrays rows (Insert n schema plan) (Some made) directory fit of =
    ap (λ (d : Directory). by_pairs page_row (changed arrays (Insert n schema plan) (Some made.at)) (lists_after (entries_of arrays) (Insert n schema plan) d rows)) (sym of)
    ∙ pages_of_made n made arrays rows fit
pages_changed arrays rows (Remove n) made directory fit of = pages_left n arrays rows fit
pages_changed arrays rows (RemoveVersions n below) made directory fit of = pages_cut n below arrays rows fit
