-- The catalogue of a database after a change is that of the database before it, changed.
use Rattle.std.proofs.Common.{◌≡◌, ◌∙◌, ℕ, suc, ◌+◌, ◌≤◌, Bool, true, false, cond, not, ◌||◌, List, [], ◌∷◌, ◌++◌, map, length, drop, Some, refl, sym, ap, arith}
use Rattle.std.specs.Prelude.{nat_lt}
use Rattle.std.specs.List.{AllByRecursion, filter, find, insert, prefix_len, count_by}
use Rattle.std.specs.Str.{bytes_eq}
use Rattle.std.proofs.lemmas.Bool.Decides.{nat_tests}
use Rattle.std.proofs.lemmas.List.{map-append}
use Rattle.std.proofs.lemmas.List.Sums.{sum_by-cons}
use Rattle.cell_values.specs.declared.datum.Row.{Row}
use Rattle.cell_values.specs.declared.schema.Schema.{Schema}
use Rattle.event_core.specs.Query.{Query}
use Rattle.event_core.specs.Change.{Change}
use Rattle.event_core.specs.Change.TheVariants.{Create, Store, Insert, Remove, RemoveVersions}
use Rattle.event_core.specs.Changes.{is_named, has_array}
use Rattle.event_core.specs.Databases.{Database, Stored, Version, entry_of, is_array, has_stored, with_stored, with_absent_stored, with_rows, from_version, new_rows, after}
use Rattle.event_core.specs.Stored.{is_before, IsStored, NamesRise, RiseBetween, IsDatabase}
use Rattle.event_core.specs.Typed.{FitsInto, IsTypedFor}
use Rattle.event_core.proofs.DatabaseLaws.{apart}
use Rattle.event_core.proofs.NamesOf.{map_filter, map_insert, prefix_map}
use Rattle.event_core.proofs.StoredLaws.{RiseAfter, tail_rises, after_next, all_inserted}
use Rattle.file_meaning.specs.BlobAt.{BlobAt}
use Rattle.file_meaning.specs.CatalogArray.{CatalogArray}
use Rattle.file_meaning.specs.Catalog.{Catalog}
use Rattle.file_meaning.specs.Spelling.{spelling}
use Rattle.file_meaning.specs.Records.{entries_of, with_new, with_directory}
use Rattle.file_meaning.specs.Records as records
use Rattle.file_meaning.specs.Changed.{after_change, changed}
use Rattle.commit_pages.specs.Costs.{directory_of, directory_for, catalog_of, chain_pages}
use Rattle.commit_pages.specs.Lengths.{CatalogsOfDatabases, RecordPagesAreTold, CataloguePagesAreTold}
use Rattle.commit_pages.proofs.CountingLengths.{records_read_no_page, catalogs_read_no_page, changes_keep_alike}

abbrev array_of : Stored → CatalogArray
array_of a = record { entry = entry_of a; directories = map (λ v. directory_of a.schema v.rows) a.versions }

abbrev arrays_of : Database → List CatalogArray
arrays_of db = map array_of db

-- ---- an array of a name has the schema that fits

abbrev HasSchema : List ℕ → Schema → Stored → Type 0
HasSchema name schema a = is_array name a ≡ true → a.schema ≡ schema

all_true : (name : List ℕ) (schema : Schema) (prev : List ℕ) (db : Database) → bytes_eq prev name ≡ true → RiseAfter prev (map entry_of db) → AllByRecursion (HasSchema name schema) db
all_true name schema prev [] e rise = tt
all_true name schema prev (a ∷ db) e rise = (λ yes. absurd (apart name prev a.name e rise.0 yes), all_true name schema prev db e (after_next prev (entry_of a) (map entry_of db) rise))

fitting : (name : List ℕ) (schema : Schema) (plan : Query) (db : Database) → NamesRise (map (λ e. e.name) (map entry_of db)) → FitsInto (find (is_named name) (map entry_of db)) schema plan → AllByRecursion (HasSchema name schema) db
fitting name schema plan [] rise fits = tt
fitting name schema plan (a ∷ db) rise fits = by_test (is_array name a) refl fits (fitting name schema plan db (tail_rises (entry_of a) (map entry_of db) rise))
  where
    by_test : (b : Bool) → is_array name a ≡ b → FitsInto (cond b (Some (entry_of a)) (find (is_named name) (map entry_of db))) schema plan
        → (FitsInto (find (is_named name) (map entry_of db)) schema plan → AllByRecursion (HasSchema name schema) db) → AllByRecursion (HasSchema name schema) (a ∷ db)
    by_test true is it later = (λ yes. sym it.0, all_true name schema a.name db is rise)
    by_test false is it later = (λ yes. absurd cc, later it)

absent_too : (name : List ℕ) (schema : Schema) (db : Database) → AllByRecursion (HasSchema name schema) db → AllByRecursion (HasSchema name schema) (with_absent_stored name schema db)
absent_too name schema db all = by_test (has_stored db name)
  where
    by_test : (b : Bool) → AllByRecursion (HasSchema name schema) (cond b db (with_stored name schema db))
    by_test true = all
    by_test false =
        all_inserted (HasSchema name schema) (record { name = name; schema = schema; next = 1; versions = [] }) db (prefix_len (λ a. is_before a.name name) db) (λ yes. refl) all

-- ---- one more array

made_is : (name : List ℕ) (schema : Schema) (db : Database) → arrays_of (with_stored name schema db) ≡ with_new name schema (arrays_of db)
made_is name schema db =
    map_insert array_of db (prefix_len (λ a. is_before a.name name) db) (record { name = name; schema = schema; next = 1; versions = [] })
    ∙ ap (λ (i : ℕ). insert (arrays_of db) i (record { entry = entry_of (record { name = name; schema = schema; next = 1; versions = [] }); directories = [] })) (sym (prefix_map array_of (λ array. is_before array.entry.name name) db))

any_is : (name : List ℕ) (db : Database) → has_array (entries_of (arrays_of db)) name ≡ has_stored db name
any_is name [] = refl
any_is name (a ∷ db) = ap (λ (b : Bool). is_array name a || b) (any_is name db)

absent_is : (name : List ℕ) (schema : Schema) (db : Database)
    → arrays_of (with_absent_stored name schema db) ≡ cond (has_array (entries_of (arrays_of db)) name) (arrays_of db) (with_new name schema (arrays_of db))
absent_is name schema db = by_test (has_stored db name) ∙ ap (λ (b : Bool). cond b (arrays_of db) (with_new name schema (arrays_of db))) (sym (any_is name db))
  where
    by_test : (b : Bool) → arrays_of (cond b db (with_stored name schema db)) ≡ cond b (arrays_of db) (with_new name schema (arrays_of db))
    by_test true = refl
    by_test false = made_is name schema db

-- ---- one more version

raised_one : (name : List ℕ) (schema : Schema) (rows : List Row) (a : Stored) → HasSchema name schema a → array_of (with_rows name rows a) ≡ with_directory name (directory_of schema rows) (array_of a)
raised_one name schema rows a has = by_test (is_array name a) has
  where
    by_test : (b : Bool) → (b ≡ true → a.schema ≡ schema)
        → array_of (cond b (record a { next = a.next + 1; versions = a.versions ++ record { number = a.next; rows = rows } ∷ [] }) a)
        ≡ cond b (record { entry = cond b (record { name = a.name; schema = a.schema; next = a.next + 1; versions = map (λ v. v.number) a.versions ++ a.next ∷ [] }) (entry_of a); directories = map (λ v. directory_of a.schema v.rows) a.versions ++ directory_of schema rows ∷ [] }) (array_of a)
    by_test false same = refl
    by_test true same =
        ap (λ (ns : List ℕ). record { entry = record { name = a.name; schema = a.schema; next = a.next + 1; versions = ns }; directories = map (λ v. directory_of a.schema v.rows) (a.versions ++ record { number = a.next; rows = rows } ∷ []) })
        (map-append (λ v. v.number) a.versions (record { number = a.next; rows = rows } ∷ []))
        ∙ ap (λ (ds : List BlobAt). record { entry = record { name = a.name; schema = a.schema; next = a.next + 1; versions = map (λ v. v.number) a.versions ++ a.next ∷ [] }; directories = ds })
        (map-append (λ v. directory_of a.schema v.rows) a.versions (record { number = a.next; rows = rows } ∷ [])
        ∙ ap (λ (s : Schema). map (λ v. directory_of a.schema v.rows) a.versions ++ directory_of s rows ∷ []) (same refl))

raised_all : (name : List ℕ) (schema : Schema) (rows : List Row) (db : Database) → AllByRecursion (HasSchema name schema) db → arrays_of (map (with_rows name rows) db) ≡ map (with_directory name (directory_of schema rows)) (arrays_of db)
raised_all name schema rows [] all = refl
raised_all name schema rows (a ∷ db) all =
    ap (λ (x : CatalogArray). x ∷ arrays_of (map (with_rows name rows) db)) (raised_one name schema rows a all.0)
    ∙ ap (λ (xs : List CatalogArray). with_directory name (directory_of schema rows) (array_of a) ∷ xs) (raised_all name schema rows db all.1)

-- ---- fewer versions

nothing_more : (n : ℕ) → n ≡ 0 → 0 + n ≡ 0
nothing_more n is = omega (arith, is)

none_below : (low high below : ℕ) (numbers : List ℕ) → below ≤ low → RiseBetween low high numbers → count_by (λ v. nat_lt v below) numbers ≡ 0
none_below low high below [] le rise = refl
none_below low high below (n ∷ numbers) le rise =
    let lt = rise.0 in
    let not_below : nat_lt n below ≡ false = grind (arith, nat_tests) in
    sum_by-cons (λ v. cond (nat_lt v below) 1 0) n numbers ∙ ap (λ (b : Bool). cond b 1 0 + count_by (λ v. nat_lt v below) numbers) not_below
    ∙ nothing_more (count_by (λ v. nat_lt v below) numbers) (none_below n high below numbers (omega (arith, lt, le)) rise.2)

drop_none : {A : Type 0} (xs : List A) → drop 0 xs ≡ xs
drop_none [] = refl
drop_none (x ∷ xs) = refl

-- as many of the first go as have a lower number
cut_images : (f : Version → BlobAt) (low high below : ℕ) (vs : List Version) → RiseBetween low high (map (λ v. v.number) vs)
    → drop (count_by (λ n. nat_lt n below) (map (λ v. v.number) vs)) (map f vs) ≡ map f (filter (λ v. not (nat_lt v.number below)) vs)
cut_images f low high below [] rise = refl
cut_images f low high below (v ∷ vs) rise =
    ap (λ (k : ℕ). drop k (f v ∷ map f vs)) (sum_by-cons (λ n. cond (nat_lt n below) 1 0) v.number (map (λ w. w.number) vs))
    ∙ by_test (nat_lt v.number below) refl (cut_images f v.number high below vs rise.2)
  where
    by_test : (b : Bool) → nat_lt v.number below ≡ b → drop (count_by (λ n. nat_lt n below) (map (λ w. w.number) vs)) (map f vs) ≡ map f (filter (λ w. not (nat_lt w.number below)) vs)
        → drop (cond b 1 0 + count_by (λ n. nat_lt n below) (map (λ w. w.number) vs)) (f v ∷ map f vs) ≡ map f (cond (not b) (v ∷ filter (λ w. not (nat_lt w.number below)) vs) (filter (λ w. not (nat_lt w.number below)) vs))
    by_test true is later =
        let one : 1 + count_by (λ n. nat_lt n below) (map (λ w. w.number) vs) ≡ suc (count_by (λ n. nat_lt n below) (map (λ w. w.number) vs)) = omega arith in
        ap (λ (k : ℕ). drop k (f v ∷ map f vs)) one ∙ later
    by_test false is later =
        let le : below ≤ v.number = grind (arith, nat_tests) in
        let none : count_by (λ n. nat_lt n below) (map (λ w. w.number) vs) ≡ 0 = none_below v.number high below (map (λ w. w.number) vs) le rise.2 in
        ap (λ (k : ℕ). drop k (f v ∷ map f vs)) (nothing_more (count_by (λ n. nat_lt n below) (map (λ w. w.number) vs)) none)
        ∙ ap (λ (ds : List BlobAt). f v ∷ ds) (sym (drop_none (map f vs)) ∙ ap (λ (k : ℕ). drop k (map f vs)) (sym none) ∙ later)

cut_one : (name : List ℕ) (below : ℕ) (a : Stored) → RiseBetween 0 a.next (map (λ v. v.number) a.versions) → array_of (from_version name below a) ≡ records.from_version name below (array_of a)
cut_one name below a rise = by_test (is_array name a)
  where
    by_test : (b : Bool) → array_of (cond b (record a { versions = filter (λ v. not (nat_lt v.number below)) a.versions }) a)
        ≡ cond b (record { entry = cond b (record { name = a.name; schema = a.schema; next = a.next; versions = filter (λ v. not (nat_lt v below)) (map (λ v. v.number) a.versions) }) (entry_of a); directories = drop (count_by (λ version. nat_lt version below) (map (λ v. v.number) a.versions)) (map (λ v. directory_of a.schema v.rows) a.versions) }) (array_of a)
    by_test false = refl
    by_test true =
        ap (λ (ns : List ℕ). record { entry = record { name = a.name; schema = a.schema; next = a.next; versions = ns }; directories = map (λ v. directory_of a.schema v.rows) (filter (λ v. not (nat_lt v.number below)) a.versions) })
        (map_filter (λ v. v.number) (λ v. not (nat_lt v below)) a.versions)
        ∙ ap (λ (ds : List BlobAt). record { entry = record { name = a.name; schema = a.schema; next = a.next; versions = filter (λ v. not (nat_lt v below)) (map (λ v. v.number) a.versions) }; directories = ds })
        (sym (cut_images (λ v. directory_of a.schema v.rows) 0 a.next below a.versions rise))

cut_all : (name : List ℕ) (below : ℕ) (db : Database) → AllByRecursion IsStored (map entry_of db) → arrays_of (map (from_version name below) db) ≡ map (records.from_version name below) (arrays_of db)
cut_all name below [] all = refl
cut_all name below (a ∷ db) all =
    ap (λ (x : CatalogArray). x ∷ arrays_of (map (from_version name below) db)) (cut_one name below a all.0.versions)
    ∙ ap (λ (xs : List CatalogArray). records.from_version name below (array_of a) ∷ xs) (cut_all name below db all.1)

-- ---- all changes

arrays_after : (db : Database) (change : Change) → IsDatabase db → IsTypedFor (record { arrays = map entry_of db }) change → arrays_of (after db change) ≡ changed (arrays_of db) change (directory_for db change)
arrays_after db (Create name schema) is typed = made_is name schema db
arrays_after db (Store name schema plan) is typed =
    let rows = new_rows db (Store name schema plan) in
    raised_all name schema rows (with_absent_stored name schema db) (absent_too name schema db (fitting name schema plan db is.names.rising typed.1.1))
    ∙ ap (map (with_directory name (directory_of schema rows))) (absent_is name schema db)
arrays_after db (Insert name schema plan) is typed = raised_all name schema (new_rows db (Insert name schema plan)) db (fitting name schema plan db is.names.rising typed.1.1)
arrays_after db (Remove name) is typed = map_filter array_of (λ array. not (is_named name array.entry)) db
arrays_after db (RemoveVersions name below) is typed = cut_all name below db is.names.each

pub catalogs_of_databases : CatalogsOfDatabases
catalogs_of_databases db change is typed = ap (λ (arrays : List CatalogArray). record { arrays = arrays }) (arrays_after db change is typed)

pub record_pages_are_told : RecordPagesAreTold
record_pages_are_told db change catalog directory same alike = ap chain_pages (sym (records_read_no_page catalog (catalog_of db) change directory (directory_for db change) same alike))

pub catalogue_pages_are_told : CataloguePagesAreTold
catalogue_pages_are_told db change catalog directory is typed same alike =
    ap (λ (c : Catalog). chain_pages (length (spelling c))) (catalogs_of_databases db change is typed)
    ∙ ap chain_pages (sym (catalogs_read_no_page (after_change catalog change directory) (after_change (catalog_of db) change (directory_for db change)) (changes_keep_alike catalog (catalog_of db) change directory (directory_for db change) same alike)))
