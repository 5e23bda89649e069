-- The names after a change depend on no row.
use Rattle.std.proofs.Common.{◌≡◌, ◌∙◌, ℕ, zero, suc, ◌+◌, Bool, true, false, not, ◌||◌, if◌then◌else◌, List, [], ◌∷◌, ◌++◌, map, refl, ap, sym, nat_lt}
use Rattle.std.specs.List.{filter, list_any, prefix_len, insert}
use Rattle.std.specs.Ordering.{nat_cmp, is_lt}
use Rattle.std.specs.Cmp.Lexicographic.{slice_cmp}
use Rattle.std.proofs.lemmas.List.{map-append}
use Rattle.expr_nulls.specs.Schema.{Schema}
use Rattle.plan_changes.specs.declared.change.Change.{Change}
use Rattle.plan_changes.specs.declared.change.Change.TheVariants.{Create, Store, Insert, Remove, RemoveVersions}
use Rattle.logical_plan.specs.declared.names.NameEntry.{NameEntry}
use Rattle.plan_changes.specs.Changes.{is_named, with_array, with_absent, with_version, without_below, arrays_after}
use Rattle.plan_changes.specs.Databases.{Stored, Database, is_array, has_stored, with_stored, with_absent_stored, with_rows, from_version, new_rows, after, entry_of, NamesDependOnNoRow}
use Rattle.expr_nulls.specs.Row.{Row}

map_if : {A B : Type 0} (f : A → B) (b : Bool) (x : A) (xs : List A) (ys : List B) → map f xs ≡ ys → map f (if b then x ∷ xs else xs) ≡ (if b then f x ∷ ys else ys)
map_if f true x xs ys e = ap (λ zs. f x ∷ zs) e
map_if f false x xs ys e = e

-- a filter of images
pub map_filter : {A B : Type 0} (f : A → B) (p : B → Bool) (xs : List A) → map f (filter (λ x. p (f x)) xs) ≡ filter p (map f xs)
map_filter f p [] = refl
map_filter f p (x ∷ xs) = map_if f (p (f x)) x _ _ (map_filter f p xs)

any_map : {A B : Type 0} (f : A → B) (p : B → Bool) (xs : List A) → list_any p (map f xs) ≡ list_any (λ x. p (f x)) xs
any_map f p [] = refl
any_map f p (x ∷ xs) = ap (λ b. p (f x) || b) (any_map f p xs)

pub prefix_map : {A B : Type 0} (f : A → B) (p : B → Bool) (xs : List A) → prefix_len p (map f xs) ≡ prefix_len (λ x. p (f x)) xs
prefix_map f p [] = refl
prefix_map f p (x ∷ xs) = ap (λ n. if p (f x) then 1 + n else 0) (prefix_map f p xs)

pub map_insert : {A B : Type 0} (f : A → B) (xs : List A) (i : ℕ) (x : A) → map f (insert xs i x) ≡ insert (map f xs) i (f x)
map_insert f [] zero x = refl
map_insert f [] (suc i) x = refl
map_insert f (y ∷ ys) zero x = refl
map_insert f (y ∷ ys) (suc i) x = ap (λ zs. f y ∷ zs) (map_insert f ys i x)

pub map_map : {A B : Type 0} (f : A → B) (g : A → A) (k : B → B) → ((x : A) → f (g x) ≡ k (f x)) → (xs : List A) → map f (map g xs) ≡ map k (map f xs)
map_map f g k h [] = refl
map_map f g k h (x ∷ xs) = ap (λ y. y ∷ map f (map g xs)) (h x) ∙ ap (λ ys. k (f x) ∷ ys) (map_map f g k h xs)

-- the new array
stored_named : (name : List ℕ) (schema : Schema) (db : Database) → map entry_of (with_stored name schema db) ≡ with_array name schema (map entry_of db)
stored_named name schema db =
    map_insert entry_of db (prefix_len (λ a. is_lt (slice_cmp nat_cmp a.name name)) db) (record { name = name; schema = schema; next = 1; versions = [] })
    ∙ ap (λ i. insert (map entry_of db) i (record { name = name; schema = schema; next = 1; versions = [] })) (sym (prefix_map entry_of (λ entry. is_lt (slice_cmp nat_cmp entry.name name)) db))

absent_by : (b : Bool) (db wb : Database) (es ws : List NameEntry) → map entry_of db ≡ es → map entry_of wb ≡ ws → map entry_of (if b then db else wb) ≡ (if b then es else ws)
absent_by true db wb es ws e f = e
absent_by false db wb es ws e f = f

absent_named : (name : List ℕ) (schema : Schema) (db : Database) → map entry_of (with_absent_stored name schema db) ≡ with_absent name schema (map entry_of db)
absent_named name schema db =
    absent_by (has_stored db name) db (with_stored name schema db) (map entry_of db) (with_array name schema (map entry_of db)) refl (stored_named name schema db)
    ∙ ap (λ b. if b then map entry_of db else with_array name schema (map entry_of db)) (sym (any_map entry_of (is_named name) db))

-- the new version's number
rows_by : (b : Bool) (rows : List Row) (a : Stored) →
    entry_of (if b then record a { next = a.next + 1; versions = a.versions ++ record { number = a.next; rows = rows } ∷ [] } else a)
    ≡ (if b then record { name = a.name; schema = a.schema; next = a.next + 1; versions = map (λ v. v.number) a.versions ++ a.next ∷ [] } else entry_of a)
rows_by true rows a = ap (λ vs. record { name = a.name; schema = a.schema; next = a.next + 1; versions = vs }) (map-append (λ v. v.number) a.versions (record { number = a.next; rows = rows } ∷ []))
rows_by false rows a = refl

from_by : (b : Bool) (below : ℕ) (a : Stored) →
    entry_of (if b then record a { versions = filter (λ v. not (nat_lt v.number below)) a.versions } else a)
    ≡ (if b then record { name = a.name; schema = a.schema; next = a.next; versions = filter (λ v. not (nat_lt v below)) (map (λ v. v.number) a.versions) } else entry_of a)
from_by true below a = ap (λ vs. record { name = a.name; schema = a.schema; next = a.next; versions = vs }) (map_filter (λ v. v.number) (λ v. not (nat_lt v below)) a.versions)
from_by false below a = refl

arrays_named : (db : Database) (change : Change) → map entry_of (after db change) ≡ arrays_after (map entry_of db) change
arrays_named db (Create name schema) = stored_named name schema db
arrays_named db (Store name schema plan) =
    map_map entry_of (with_rows name (new_rows db (Store name schema plan))) (with_version name) (λ a. rows_by (is_array name a) (new_rows db (Store name schema plan)) a) (with_absent_stored name schema db)
    ∙ ap (map (with_version name)) (absent_named name schema db)
arrays_named db (Insert name schema plan) =
    map_map entry_of (with_rows name (new_rows db (Insert name schema plan))) (with_version name) (λ a. rows_by (is_array name a) (new_rows db (Insert name schema plan)) a) db
arrays_named db (Remove name) = map_filter entry_of (λ entry. not (is_named name entry)) db
arrays_named db (RemoveVersions name below) = map_map entry_of (from_version name below) (without_below name below) (λ a. from_by (is_array name a) below a) db

pub names_depend_on_no_row : NamesDependOnNoRow
names_depend_on_no_row db change = ap (λ arrays. record { arrays = arrays }) (arrays_named db change)
