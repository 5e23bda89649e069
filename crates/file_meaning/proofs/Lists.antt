-- Arrays of one name.
use Rattle.std.proofs.Common.{◌≡◌, ℕ, zero, suc, Bool, true, false, cond, ◌||◌, List, [], ◌∷◌, ◌++◌, map, length, Some, refl, sym, ap, subst, arith}
use Rattle.std.specs.Prelude.{Ok}
use Rattle.std.specs.List.{AllByRecursion, find, insert}
use Rattle.std.specs.Str.{bytes_eq}
use Rattle.cell_values.specs.declared.schema.Schema.{Schema}
use Rattle.array_rows.specs.Boxes.{by_pairs}
use Rattle.chunk_map.specs.declared.directory.DirEntry.{DirEntry}
use Rattle.chunk_map.specs.declared.directory.Directory.{Directory}
use Rattle.plan_changes.specs.Query.{Query}
use Rattle.plan_changes.specs.NameEntry.{NameEntry}
use Rattle.plan_changes.specs.Changes.{is_named, has_array, new_entry}
use Rattle.plan_changes.specs.Databases.{Database, is_array, has_stored, entry_of}
use Rattle.plan_changes.specs.Stored.{NamesRise}
use Rattle.plan_changes.specs.Typed.{FitsInto}
use Rattle.plan_changes.proofs.DatabaseLaws.{apart}
use Rattle.plan_changes.proofs.StoredLaws.{names_in, tail_rises, after_next, RiseAfter}
use Rattle.version_catalog.specs.declared.rules.catalog.BlobAt.{BlobAt}
use Rattle.version_catalog.specs.declared.rules.catalog.CatalogArray.{CatalogArray}
use Rattle.file_meaning.specs.Opening.{is_same, is_seen, Rules, rows_in, all_of, version_pages, row_pages}
use Rattle.file_meaning.proofs.Apart.{both_all}
use Rattle.file_meaning.proofs.Elsewhere.{rows_steps}
use Rattle.file_meaning.specs.Premises.{row_of}
use Rattle.file_meaning.proofs.Appended.{entries_in}
use Rattle.file_meaning.proofs.Rows.{HasOnce, all_pages}
use Rattle.file_meaning.proofs.Same.{same_entry}

-- ---- names that rise

none_behind : (name prev : List ℕ) (es : List NameEntry) → bytes_eq prev name ≡ true → RiseAfter prev es → has_array es name ≡ false
none_behind name prev [] is rise = refl
none_behind name prev (e ∷ es) is rise = by_test (is_named name e) refl (none_behind name prev es is (after_next prev e es rise))
  where
    by_test : (b : Bool) → is_named name e ≡ b → has_array es name ≡ false → (b || has_array es name) ≡ false
    by_test true named later = absurd (apart name prev e.name is rise.0 named)
    by_test false named later = later

pub once_by : (name : List ℕ) (es : List NameEntry) → NamesRise (names_in es) → HasOnce name es
once_by name [] rise = tt
once_by name (e ∷ es) rise = (λ named. none_behind name e.name es named rise, once_by name es (tail_rises e es rise))

-- ---- the schema of an array of the name

abbrev pub HasSchema : List ℕ → Schema → NameEntry → Type 0
HasSchema name schema e = is_named name e ≡ true → e.schema ≡ schema

pub none_has : (name : List ℕ) (schema : Schema) (es : List NameEntry) → has_array es name ≡ false → AllByRecursion (HasSchema name schema) es
none_has name schema [] none = tt
none_has name schema (e ∷ es) none = by_test (is_named name e) refl none (none_has name schema es)
  where
    by_test : (b : Bool) → is_named name e ≡ b → (b || has_array es name) ≡ false → (has_array es name ≡ false → AllByRecursion (HasSchema name schema) es) → AllByRecursion (HasSchema name schema) (e ∷ es)
    by_test true named is later = absurd cc
    by_test false named is later = (λ yes. absurd cc, later is)

-- the schema that fits into what is found is that of the array of the name
pub own_schema : (name : List ℕ) (schema : Schema) (plan : Query) (es : List NameEntry) → HasOnce name es → FitsInto (find (is_named name) es) schema plan → AllByRecursion (HasSchema name schema) es
own_schema name schema plan [] once fits = tt
own_schema name schema plan (e ∷ es) once fits = by_test (is_named name e) refl fits (own_schema name schema plan es once.1)
  where
    by_test : (b : Bool) → is_named name e ≡ b → FitsInto (cond b (Some e) (find (is_named name) es)) schema plan → (FitsInto (find (is_named name) es) schema plan → AllByRecursion (HasSchema name schema) es)
        → AllByRecursion (HasSchema name schema) (e ∷ es)
    by_test true named fit later = (λ yes. sym fit.0, none_has name schema es (once.0 named))
    by_test false named fit later = (λ yes. absurd cc, later fit)

-- ---- the directories of an array

pub all_row : (P : Directory → Type 0) (name : List ℕ) (es : List NameEntry) (rows : List (List Directory)) → AllByRecursion (AllByRecursion P) rows → AllByRecursion P (row_of name es rows)
all_row P name [] rows all = tt
all_row P name (e ∷ es) [] all = tt
all_row P name (e ∷ es) (row ∷ rows) all = by_test (is_named name e) (all_row P name es rows all.1)
  where
    by_test : (b : Bool) → AllByRecursion P (row_of name es rows) → AllByRecursion P (cond b row (row_of name es rows))
    by_test true later = all.0
    by_test false later = later

pub all_entries : (P : DirEntry → Type 0) (row : List Directory) → AllByRecursion (λ d. AllByRecursion P d.entries) row → AllByRecursion P (entries_in row)
all_entries P [] all = tt
all_entries P (d ∷ row) all = both_all P d.entries (entries_in row) all.0 (all_entries P row all.1)

pub seen_has : (P : DirEntry → Type 0) (seen : List DirEntry) (e : DirEntry) → AllByRecursion P seen → is_seen seen e ≡ true → P e
seen_has P [] e all is = absurd cc
seen_has P (f ∷ seen) e all is = by_test (is_same e f) refl is (seen_has P seen e all.1)
  where
    by_test : (b : Bool) → is_same e f ≡ b → (b || is_seen seen e) ≡ true → (is_seen seen e ≡ true → P e) → P e
    by_test true same more later = subst P (sym (same_entry e f same)) all.0
    by_test false same more later = later more

pub row_absent : (name : List ℕ) (es : List NameEntry) (rows : List (List Directory)) → has_array es name ≡ false → row_of name es rows ≡ []
row_absent name [] rows none = refl
row_absent name (e ∷ es) [] none = refl
row_absent name (e ∷ es) (row ∷ rows) none = by_test (is_named name e) none (row_absent name es rows)
  where
    by_test : (b : Bool) → (b || has_array es name) ≡ false → (has_array es name ≡ false → row_of name es rows ≡ []) → cond b row (row_of name es rows) ≡ []
    by_test true is later = absurd cc
    by_test false is later = later is

no_row : (b : Bool) (row : List Directory) → row ≡ [] → cond b [] row ≡ []
no_row true row none = refl
no_row false row none = none

-- that of a new array is empty
pub row_inserted : (name : List ℕ) (schema : Schema) (es : List NameEntry) (rows : List (List Directory)) (i : ℕ) → length rows ≡ length es → has_array es name ≡ false
    → row_of name (insert es i (new_entry name schema)) (insert rows i []) ≡ []
row_inserted name schema [] [] zero each none = no_row (is_named name (new_entry name schema)) [] refl
row_inserted name schema [] [] (suc i) each none = no_row (is_named name (new_entry name schema)) [] refl
row_inserted name schema [] (row ∷ rows) i each none = absurd (omega (arith, each))
row_inserted name schema (e ∷ es) [] i each none = absurd (omega (arith, each))
row_inserted name schema (e ∷ es) (row ∷ rows) zero each none =
    no_row (is_named name (new_entry name schema)) (row_of name (e ∷ es) (row ∷ rows)) (row_absent name (e ∷ es) (row ∷ rows) none)
row_inserted name schema (e ∷ es) (row ∷ rows) (suc i) each none = by_test (is_named name e) none (row_inserted name schema es rows i (omega (arith, each)))
  where
    by_test : (b : Bool) → (b || has_array es name) ≡ false → (has_array es name ≡ false → row_of name (insert es i (new_entry name schema)) (insert rows i []) ≡ [])
        → cond b row (row_of name (insert es i (new_entry name schema)) (insert rows i [])) ≡ []
    by_test true is later = absurd cc
    by_test false is later = later is

-- ---- arrays and rows

pub rows_length : (file : List ℕ) (rules : Rules) (arrays : List CatalogArray) (taken : List ℕ) (rows : List (List Directory)) → rows_in file rules taken arrays ≡ Ok rows → length rows ≡ length arrays
rows_length file rules [] taken rows is = let none : [] ≡ rows = cc in subst (λ (rs : List (List Directory)). length rs ≡ 0) none refl
rows_length file rules (array ∷ arrays) taken rows is =
    let s = rows_steps file rules taken array arrays rows is in
    subst (λ (rs : List (List Directory)). length rs ≡ suc (length arrays)) s.is (ap suc (rows_length file rules arrays s.row.taken s.later s.rest))

-- an array without versions has no page
pub pages_inserted : (array : CatalogArray) → array.directories ≡ [] → (arrays : List CatalogArray) (rows : List (List Directory)) (i : ℕ) → length rows ≡ length arrays
    → all_pages (insert arrays i array) (insert rows i []) ≡ all_pages arrays rows
pages_inserted array none [] [] zero each = ap (λ (bs : List BlobAt). all_of (by_pairs version_pages bs []) ++ []) none
pages_inserted array none [] [] (suc i) each = ap (λ (bs : List BlobAt). all_of (by_pairs version_pages bs []) ++ []) none
pages_inserted array none [] (row ∷ rows) i each = absurd (omega (arith, each))
pages_inserted array none (a ∷ arrays) [] i each = absurd (omega (arith, each))
pages_inserted array none (a ∷ arrays) (row ∷ rows) zero each = ap (λ (bs : List BlobAt). all_of (by_pairs version_pages bs []) ++ all_pages (a ∷ arrays) (row ∷ rows)) none
pages_inserted array none (a ∷ arrays) (row ∷ rows) (suc i) each = ap (λ (ps : List ℕ). row_pages a row ++ ps) (pages_inserted array none arrays rows i (omega (arith, each)))

-- ---- the arrays of a database

pub any_stored : (name : List ℕ) (db : Database) → has_stored db name ≡ has_array (map entry_of db) name
any_stored name [] = refl
any_stored name (a ∷ db) = ap (λ (b : Bool). is_array name a || b) (any_stored name db)

pub length_map : {A B : Type 0} (f : A → B) (xs : List A) → length (map f xs) ≡ length xs
length_map f [] = refl
length_map f (x ∷ xs) = ap suc (length_map f xs)
