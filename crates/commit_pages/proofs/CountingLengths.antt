-- How many bytes directories, catalogues and records have, whichever pages they name.
use Rattle.std.proofs.Common.{◌≡◌, ◌∙◌, ℕ, zero, suc, ◌+◌, Bool, true, false, cond, not, List, [], ◌∷◌, ◌++◌, map, length, drop, Some, None, refl, sym, ap, subst, arith}
use Rattle.std.specs.Prelude.{nat_lt}
use Rattle.std.specs.Int.{w32, w64, to_le_bytes}
use Rattle.std.specs.List.{AllByRecursion, AllZip, flat_map, insert, prefix_len, count_by}
use Rattle.std.proofs.lemmas.List.{length-append, length-replicate}
use Rattle.cell_values.specs.declared.datum.Row.{Row}
use Rattle.cell_values.specs.declared.schema.Schema.{Schema}
use Rattle.array_rows.specs.Arrays.{AreRowsOf}
use Rattle.chunk_rle.specs.Geometry.{ChunkNumber}
use Rattle.chunk_rle.specs.Link.{has_cell}
use Rattle.file_items.specs.Pages.{pages_needed}
use Rattle.file_items.specs.Spelling.{spell_name, spell_schema}
use Rattle.event_core.specs.NameEntry.{NameEntry}
use Rattle.event_core.specs.Change.TheVariants.{Create, Store, Insert, Remove, RemoveVersions}
use Rattle.event_core.specs.Changes.{is_named, has_array, new_entry, with_version, without_below}
use Rattle.event_core.specs.Stored.{is_before}
use Rattle.chunk_map.specs.declared.directory.DirEntry.{DirEntry}
use Rattle.chunk_map.specs.Entries.{numbers}
use Rattle.chunk_map.specs.Spelling.{spelling as directory_spelling, spell_entry}
use Rattle.file_meaning.specs.BlobAt.{BlobAt}
use Rattle.file_meaning.specs.CatalogArray.{CatalogArray}
use Rattle.file_meaning.specs.CatalogRecord.TheVariants as entries
use Rattle.file_meaning.specs.Spelling.{versions_at, spelling, spell_array, spell_version, spell_blob, spell_record}
use Rattle.file_meaning.specs.Records.{entries_of, is_array, with_new, with_directory, from_version, without}
use Rattle.commit_pages.specs.Costs.{numbers_of, payload_length, dir_entry, directory_of}
use Rattle.commit_pages.specs.Lengths.{AreListed, HasItsLength, AreAlike, AreAlikeArrays, DirectoriesAreAlike, CatalogsReadNoPage, RecordsReadNoPage, ChangesKeepAlike}
use Rattle.commit_pages.proofs.Orders.{total, any_order}

both_append : (a b c d : List ℕ) → length a ≡ length b → length c ≡ length d → length (a ++ c) ≡ length (b ++ d)
both_append a b c d e f =
    let p : length (a ++ c) ≡ length a + length c = length-append a c in
    let q : length (b ++ d) ≡ length b + length d = length-append b d in
    omega (arith, p, q, e, f)

-- ---- blobs

pages_bytes : (ps qs : List ℕ) → length ps ≡ length qs → length (flat_map (to_le_bytes w32) ps) ≡ length (flat_map (to_le_bytes w32) qs)
pages_bytes [] [] e = refl
pages_bytes [] (q ∷ qs) e = absurd (omega (arith, e))
pages_bytes (p ∷ ps) [] e = absurd (omega (arith, e))
pages_bytes (p ∷ ps) (q ∷ qs) e =
    both_append (to_le_bytes w32 p) (to_le_bytes w32 q) (flat_map (to_le_bytes w32) ps) (flat_map (to_le_bytes w32) qs) refl (pages_bytes ps qs (omega (arith, e)))

blob_bytes : (a b : BlobAt) → AreAlike a b → length (spell_blob a) ≡ length (spell_blob b)
unfolding spell_blob
blob_bytes a b alike =
    both_append (to_le_bytes w64 a.length) (to_le_bytes w64 b.length) (to_le_bytes w32 (length a.pages) ++ flat_map (to_le_bytes w32) a.pages) (to_le_bytes w32 (length b.pages) ++ flat_map (to_le_bytes w32) b.pages) refl
    (both_append (to_le_bytes w32 (length a.pages)) (to_le_bytes w32 (length b.pages)) (flat_map (to_le_bytes w32) a.pages) (flat_map (to_le_bytes w32) b.pages) refl (pages_bytes a.pages b.pages alike.pages))

-- ---- catalogues

one_version : (n : ℕ) (d e : BlobAt) → AreAlike d e → length (spell_version (record { number = n; directory = d })) ≡ length (spell_version (record { number = n; directory = e }))
unfolding spell_version
one_version n d e alike = both_append (to_le_bytes w32 n) (to_le_bytes w32 n) (spell_blob d) (spell_blob e) refl (blob_bytes d e alike)

versions_bytes : (numbers : List ℕ) (ds es : List BlobAt) → AllZip AreAlike ds es → length (flat_map spell_version (versions_at numbers ds)) ≡ length (flat_map spell_version (versions_at numbers es))
versions_bytes [] ds es all = refl
versions_bytes (n ∷ numbers) [] [] all = refl
versions_bytes (n ∷ numbers) [] (e ∷ es) all = absurd all
versions_bytes (n ∷ numbers) (d ∷ ds) [] all = absurd all
versions_bytes (n ∷ numbers) (d ∷ ds) (e ∷ es) all =
    both_append (spell_version (record { number = n; directory = d })) (spell_version (record { number = n; directory = e })) (flat_map spell_version (versions_at numbers ds)) (flat_map spell_version (versions_at numbers es))
    (one_version n d e all.0) (versions_bytes numbers ds es all.1)

same_entry_bytes : (entry : NameEntry) (ds es : List BlobAt) → AllZip AreAlike ds es → length (spell_array (record { entry = entry; directories = ds })) ≡ length (spell_array (record { entry = entry; directories = es }))
unfolding spell_array
same_entry_bytes entry ds es all =
    let name = spell_name entry.name in
    let schema = spell_schema entry.schema in
    let next = to_le_bytes w32 entry.next in
    let some = flat_map spell_version (versions_at entry.versions ds) in
    let others = flat_map spell_version (versions_at entry.versions es) in
    let count = to_le_bytes w32 (length (versions_at entry.versions ds)) in
    let count' = to_le_bytes w32 (length (versions_at entry.versions es)) in
    both_append name name (schema ++ (next ++ (count ++ some))) (schema ++ (next ++ (count' ++ others))) refl
    (both_append schema schema (next ++ (count ++ some)) (next ++ (count' ++ others)) refl
    (both_append next next (count ++ some) (count' ++ others) refl
    (both_append count count' some others refl (versions_bytes entry.versions ds es all))))

array_bytes : (a b : CatalogArray) → AreAlikeArrays a b → length (spell_array a) ≡ length (spell_array b)
array_bytes a b alike =
    same_entry_bytes a.entry a.directories b.directories alike.directories
    ∙ ap (λ (entry : NameEntry). length (spell_array (record { entry = entry; directories = b.directories }))) alike.entry

arrays_bytes : (xs ys : List CatalogArray) → AllZip AreAlikeArrays xs ys → length (flat_map spell_array xs) ≡ length (flat_map spell_array ys)
arrays_bytes [] [] all = refl
arrays_bytes [] (y ∷ ys) all = absurd all
arrays_bytes (x ∷ xs) [] all = absurd all
arrays_bytes (x ∷ xs) (y ∷ ys) all = both_append (spell_array x) (spell_array y) (flat_map spell_array xs) (flat_map spell_array ys) (array_bytes x y all.0) (arrays_bytes xs ys all.1)

pub catalogs_read_no_page : CatalogsReadNoPage
unfolding spelling
catalogs_read_no_page a b alike =
    both_append (to_le_bytes w32 (length a.arrays)) (to_le_bytes w32 (length b.arrays)) (flat_map spell_array a.arrays) (flat_map spell_array b.arrays) refl (arrays_bytes a.arrays b.arrays alike)

-- ---- records

same_entries : (xs ys : List CatalogArray) → AllZip AreAlikeArrays xs ys → entries_of xs ≡ entries_of ys
same_entries [] [] all = refl
same_entries [] (y ∷ ys) all = absurd all
same_entries (x ∷ xs) [] all = absurd all
same_entries (x ∷ xs) (y ∷ ys) all = ap (λ (e : NameEntry). e ∷ entries_of xs) all.0.entry ∙ ap (λ (es : List NameEntry). y.entry ∷ es) (same_entries xs ys all.1)

next_bytes : (name : List ℕ) (d e : BlobAt) → AreAlike d e → length (spell_record (entries.Next name d)) ≡ length (spell_record (entries.Next name e))
unfolding spell_record
next_bytes name d e alike = ap suc (both_append (spell_name name) (spell_name name) (spell_blob d) (spell_blob e) refl (blob_bytes d e alike))

first_bytes : (name : List ℕ) (schema : Schema) (d e : BlobAt) → AreAlike d e → length (spell_record (entries.First name schema d)) ≡ length (spell_record (entries.First name schema e))
unfolding spell_record
first_bytes name schema d e alike =
    ap suc (both_append (spell_name name ++ spell_schema schema) (spell_name name ++ spell_schema schema) (spell_blob d) (spell_blob e) refl (blob_bytes d e alike))

stored_bytes : (b : Bool) (name : List ℕ) (schema : Schema) (d e : BlobAt) → AreAlike d e
    → length (spell_record (cond b (entries.Next name d) (entries.First name schema d))) ≡ length (spell_record (cond b (entries.Next name e) (entries.First name schema e)))
stored_bytes true name schema d e alike = next_bytes name d e alike
stored_bytes false name schema d e alike = first_bytes name schema d e alike

pub records_read_no_page : RecordsReadNoPage
records_read_no_page a b (Create name schema) d e same alike = refl
records_read_no_page a b (Store name schema plan) None None same alike = refl
records_read_no_page a b (Store name schema plan) None (Some e) same alike = absurd alike
records_read_no_page a b (Store name schema plan) (Some d) None same alike = absurd alike
records_read_no_page a b (Store name schema plan) (Some d) (Some e) same alike =
    stored_bytes (has_array (entries_of a.arrays) name) name schema d e alike
    ∙ ap (λ (es : List NameEntry). length (spell_record (cond (has_array es name) (entries.Next name e) (entries.First name schema e)))) (same_entries a.arrays b.arrays same)
records_read_no_page a b (Insert name schema plan) None None same alike = refl
records_read_no_page a b (Insert name schema plan) None (Some e) same alike = absurd alike
records_read_no_page a b (Insert name schema plan) (Some d) None same alike = absurd alike
records_read_no_page a b (Insert name schema plan) (Some d) (Some e) same alike = next_bytes name d e alike
records_read_no_page a b (Remove name) d e same alike = refl
records_read_no_page a b (RemoveVersions name below) d e same alike = refl

-- ---- changes of catalogues that are alike

-- what does the same to arrays of one entry does so to arrays that are alike
by_entry : (f g : CatalogArray → CatalogArray)
    → ((entry : NameEntry) (ds es : List BlobAt) → AllZip AreAlike ds es → AreAlikeArrays (f (record { entry = entry; directories = ds })) (g (record { entry = entry; directories = es })))
    → (a b : CatalogArray) → AreAlikeArrays a b → AreAlikeArrays (f a) (g b)
by_entry f g each a b alike =
    subst (λ (entry : NameEntry). AreAlikeArrays (f a) (g (record { entry = entry; directories = b.directories }))) alike.entry (each a.entry a.directories b.directories alike.directories)

zip_map : (f g : CatalogArray → CatalogArray) → ((a b : CatalogArray) → AreAlikeArrays a b → AreAlikeArrays (f a) (g b)) → (xs ys : List CatalogArray) → AllZip AreAlikeArrays xs ys → AllZip AreAlikeArrays (map f xs) (map g ys)
zip_map f g each [] [] all = tt
zip_map f g each [] (y ∷ ys) all = absurd all
zip_map f g each (x ∷ xs) [] all = absurd all
zip_map f g each (x ∷ xs) (y ∷ ys) all = (each x y all.0, zip_map f g each xs ys all.1)

zip_more : (ds es : List BlobAt) (d e : BlobAt) → AllZip AreAlike ds es → AreAlike d e → AllZip AreAlike (ds ++ d ∷ []) (es ++ e ∷ [])
zip_more [] [] d e all alike = (alike, tt)
zip_more [] (y ∷ es) d e all alike = absurd all
zip_more (x ∷ ds) [] d e all alike = absurd all
zip_more (x ∷ ds) (y ∷ es) d e all alike = (all.0, zip_more ds es d e all.1 alike)

zip_drop : (n : ℕ) (ds es : List BlobAt) → AllZip AreAlike ds es → AllZip AreAlike (drop n ds) (drop n es)
zip_drop zero [] [] all = tt
zip_drop (suc n) [] [] all = tt
zip_drop n [] (y ∷ es) all = absurd all
zip_drop n (x ∷ ds) [] all = absurd all
zip_drop zero (x ∷ ds) (y ∷ es) all = all
zip_drop (suc n) (x ∷ ds) (y ∷ es) all = zip_drop n ds es all.1

raised_alike : (name : List ℕ) (d e : BlobAt) → AreAlike d e → (a b : CatalogArray) → AreAlikeArrays a b → AreAlikeArrays (with_directory name d a) (with_directory name e b)
raised_alike name d e alike = by_entry (with_directory name d) (with_directory name e) (λ entry ds es all. by_test (is_named name entry) entry ds es all)
  where
    by_test : (t : Bool) (entry : NameEntry) (ds es : List BlobAt) → AllZip AreAlike ds es
        → AreAlikeArrays (cond t (record { entry = with_version name entry; directories = ds ++ d ∷ [] }) (record { entry = entry; directories = ds }))
        (cond t (record { entry = with_version name entry; directories = es ++ e ∷ [] }) (record { entry = entry; directories = es }))
    by_test true entry ds es all = record { entry = refl; directories = zip_more ds es d e all alike }
    by_test false entry ds es all = record { entry = refl; directories = all }

cut_alike : (name : List ℕ) (below : ℕ) → (a b : CatalogArray) → AreAlikeArrays a b → AreAlikeArrays (from_version name below a) (from_version name below b)
cut_alike name below = by_entry (from_version name below) (from_version name below) (λ entry ds es all. by_test (is_named name entry) entry ds es all)
  where
    by_test : (t : Bool) (entry : NameEntry) (ds es : List BlobAt) → AllZip AreAlike ds es
        → AreAlikeArrays (cond t (record { entry = without_below name below entry; directories = drop (count_by (λ version. nat_lt version below) entry.versions) ds }) (record { entry = entry; directories = ds }))
        (cond t (record { entry = without_below name below entry; directories = drop (count_by (λ version. nat_lt version below) entry.versions) es }) (record { entry = entry; directories = es }))
    by_test true entry ds es all = record { entry = refl; directories = zip_drop (count_by (λ version. nat_lt version below) entry.versions) ds es all }
    by_test false entry ds es all = record { entry = refl; directories = all }

zip_filter : (name : List ℕ) (xs ys : List CatalogArray) → AllZip AreAlikeArrays xs ys → AllZip AreAlikeArrays (without name xs) (without name ys)
zip_filter name [] [] all = tt
zip_filter name [] (y ∷ ys) all = absurd all
zip_filter name (x ∷ xs) [] all = absurd all
zip_filter name (x ∷ xs) (y ∷ ys) all = by_tests (is_array name x) (is_array name y) (ap (is_named name) all.0.entry) (zip_filter name xs ys all.1)
  where
    by_tests : (b c : Bool) → b ≡ c → AllZip AreAlikeArrays (without name xs) (without name ys) → AllZip AreAlikeArrays (cond (not b) (x ∷ without name xs) (without name xs)) (cond (not c) (y ∷ without name ys) (without name ys))
    by_tests true true e later = later
    by_tests false false e later = (all.0, later)
    by_tests true false e later = absurd cc
    by_tests false true e later = absurd cc

zip_insert : (x : CatalogArray) (i : ℕ) → AreAlikeArrays x x → (xs ys : List CatalogArray) → AllZip AreAlikeArrays xs ys → AllZip AreAlikeArrays (insert xs i x) (insert ys i x)
zip_insert x zero its [] [] all = (its, tt)
zip_insert x (suc i) its [] [] all = (its, tt)
zip_insert x i its [] (y ∷ ys) all = absurd all
zip_insert x i its (z ∷ xs) [] all = absurd all
zip_insert x zero its (z ∷ xs) (y ∷ ys) all = (its, all)
zip_insert x (suc i) its (z ∷ xs) (y ∷ ys) all = (all.0, zip_insert x i its xs ys all.1)

places : (name : List ℕ) (xs ys : List CatalogArray) → AllZip AreAlikeArrays xs ys → prefix_len (λ array. is_before array.entry.name name) xs ≡ prefix_len (λ array. is_before array.entry.name name) ys
places name [] [] all = refl
places name [] (y ∷ ys) all = absurd all
places name (x ∷ xs) [] all = absurd all
places name (x ∷ xs) (y ∷ ys) all =
    ap (λ (e : NameEntry). cond (is_before e.name name) (1 + prefix_len (λ array. is_before array.entry.name name) xs) 0) all.0.entry
    ∙ ap (λ (n : ℕ). cond (is_before y.entry.name name) (1 + n) 0) (places name xs ys all.1)

new_alike : (name : List ℕ) (schema : Schema) (xs ys : List CatalogArray) → AllZip AreAlikeArrays xs ys → AllZip AreAlikeArrays (with_new name schema xs) (with_new name schema ys)
new_alike name schema xs ys all =
    let x : CatalogArray = record { entry = new_entry name schema; directories = [] } in
    subst (λ (i : ℕ). AllZip AreAlikeArrays (with_new name schema xs) (insert ys i x)) (places name xs ys all)
    (zip_insert x (prefix_len (λ array. is_before array.entry.name name) xs) (record { entry = refl; directories = tt }) xs ys all)

absent_alike : (b : Bool) (name : List ℕ) (schema : Schema) (xs ys : List CatalogArray) → AllZip AreAlikeArrays xs ys → AllZip AreAlikeArrays (cond b xs (with_new name schema xs)) (cond b ys (with_new name schema ys))
absent_alike true name schema xs ys all = all
absent_alike false name schema xs ys all = new_alike name schema xs ys all

stored_alike : (name : List ℕ) (schema : Schema) (xs ys : List CatalogArray) → AllZip AreAlikeArrays xs ys
    → AllZip AreAlikeArrays (cond (has_array (entries_of xs) name) xs (with_new name schema xs)) (cond (has_array (entries_of ys) name) ys (with_new name schema ys))
stored_alike name schema xs ys all =
    subst (λ (es : List NameEntry). AllZip AreAlikeArrays (cond (has_array (entries_of xs) name) xs (with_new name schema xs)) (cond (has_array es name) ys (with_new name schema ys))) (same_entries xs ys all)
    (absent_alike (has_array (entries_of xs) name) name schema xs ys all)

pub changes_keep_alike : ChangesKeepAlike
changes_keep_alike a b (Create name schema) d e same alike = new_alike name schema a.arrays b.arrays same
changes_keep_alike a b (Store name schema plan) None None same alike = stored_alike name schema a.arrays b.arrays same
changes_keep_alike a b (Store name schema plan) None (Some e) same alike = absurd alike
changes_keep_alike a b (Store name schema plan) (Some d) None same alike = absurd alike
changes_keep_alike a b (Store name schema plan) (Some d) (Some e) same alike =
    zip_map (with_directory name d) (with_directory name e) (raised_alike name d e alike) (cond (has_array (entries_of a.arrays) name) a.arrays (with_new name schema a.arrays))
    (cond (has_array (entries_of b.arrays) name) b.arrays (with_new name schema b.arrays)) (stored_alike name schema a.arrays b.arrays same)
changes_keep_alike a b (Insert name schema plan) None None same alike = same
changes_keep_alike a b (Insert name schema plan) None (Some e) same alike = absurd alike
changes_keep_alike a b (Insert name schema plan) (Some d) None same alike = absurd alike
changes_keep_alike a b (Insert name schema plan) (Some d) (Some e) same alike = zip_map (with_directory name d) (with_directory name e) (raised_alike name d e alike) a.arrays b.arrays same
changes_keep_alike a b (Remove name) d e same alike = zip_filter name a.arrays b.arrays same
changes_keep_alike a b (RemoveVersions name below) d e same alike = zip_map (from_version name below) (from_version name below) (cut_alike name below) a.arrays b.arrays same

-- ---- directories

-- an entry takes 8 bytes for each number, for its length and for its birth, 4 for the number of pages, and 4 for each page
entry_bytes : (schema : Schema) (rows : List Row) (e : DirEntry) → HasItsLength schema rows e → length (spell_entry e) ≡ length (spell_entry (dir_entry schema rows e.at.items))
unfolding spell_entry
entry_bytes schema rows e its =
    let made = dir_entry schema rows e.at.items in
    let as_many : length e.pages ≡ length made.pages =
    its.pages ∙ ap pages_needed its.bytes ∙ sym (length-replicate (pages_needed (payload_length schema rows e.at.items)) 1) in
    let numbers = flat_map (to_le_bytes w64) e.at.items in
    let pages = to_le_bytes w32 (length e.pages) ++ flat_map (to_le_bytes w32) e.pages in
    let pages' = to_le_bytes w32 (length made.pages) ++ flat_map (to_le_bytes w32) made.pages in
    both_append numbers numbers (to_le_bytes w64 e.length ++ (to_le_bytes w64 e.birth ++ pages)) (to_le_bytes w64 made.length ++ (to_le_bytes w64 made.birth ++ pages')) refl
    (both_append (to_le_bytes w64 e.length) (to_le_bytes w64 made.length) (to_le_bytes w64 e.birth ++ pages) (to_le_bytes w64 made.birth ++ pages') refl
    (both_append (to_le_bytes w64 e.birth) (to_le_bytes w64 made.birth) pages pages' refl
    (both_append (to_le_bytes w32 (length e.pages)) (to_le_bytes w32 (length made.pages)) (flat_map (to_le_bytes w32) e.pages) (flat_map (to_le_bytes w32) made.pages) refl (pages_bytes e.pages made.pages as_many))))

made_bytes : Schema → List Row → ChunkNumber → ℕ
made_bytes schema rows k = length (spell_entry (dir_entry schema rows k))

entries_bytes : (schema : Schema) (rows : List Row) (entries : List DirEntry) → AllByRecursion (HasItsLength schema rows) entries → length (flat_map spell_entry entries) ≡ total (made_bytes schema rows) (numbers entries)
unfolding made_bytes total
entries_bytes schema rows [] all = refl
entries_bytes schema rows (e ∷ entries) all =
    let p : length (spell_entry e ++ flat_map spell_entry entries) ≡ length (spell_entry e) + length (flat_map spell_entry entries) = length-append (spell_entry e) (flat_map spell_entry entries) in
    p ∙ ap (λ (n : ℕ). n + length (flat_map spell_entry entries)) (entry_bytes schema rows e all.0)
    ∙ ap (λ (n : ℕ). length (spell_entry (dir_entry schema rows e.at.items)) + n) (entries_bytes schema rows entries all.1)

made_all_bytes : (schema : Schema) (rows : List Row) (ks : List ChunkNumber) → length (flat_map spell_entry (map (dir_entry schema rows) ks)) ≡ total (made_bytes schema rows) ks
unfolding made_bytes total
made_all_bytes schema rows [] = refl
made_all_bytes schema rows (k ∷ ks) =
    length-append (spell_entry (dir_entry schema rows k)) (flat_map spell_entry (map (dir_entry schema rows) ks))
    ∙ ap (λ (n : ℕ). length (spell_entry (dir_entry schema rows k)) + n) (made_all_bytes schema rows ks)

pub directory_bytes : (schema : Schema) (rows : List Row) (entries : List DirEntry) → AreRowsOf schema rows → AreListed schema.dimensions (has_cell schema.dimensions rows) (numbers entries)
    → AllByRecursion (HasItsLength schema rows) entries → length (directory_spelling (record { entries = entries })) ≡ (directory_of schema rows).length
unfolding directory_spelling
directory_bytes schema rows entries are listed all =
    let made = map (dir_entry schema rows) (numbers_of schema.dimensions rows) in
    both_append (to_le_bytes w64 (length entries)) (to_le_bytes w64 (length made)) (flat_map spell_entry entries) (flat_map spell_entry made) refl
    (entries_bytes schema rows entries all ∙ any_order (made_bytes schema rows) schema rows (numbers entries) are listed ∙ sym (made_all_bytes schema rows (numbers_of schema.dimensions rows)))

pub directories_are_alike : DirectoriesAreAlike
directories_are_alike schema rows entries at are listed all blob is =
    let bytes : at.length ≡ (directory_of schema rows).length = is ∙ directory_bytes schema rows entries are listed all in
    record { bytes = bytes; pages = blob.count.0 ∙ ap pages_needed bytes ∙ sym (length-replicate (pages_needed (directory_of schema rows).length) 1) }
