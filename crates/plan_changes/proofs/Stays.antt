-- After a change what is of another name is as before.
use Rattle.std.proofs.Common.{◌≡◌, ◌∙◌, ℕ, zero, suc, ◌+◌, Bool, true, false, cond, not, List, [], ◌∷◌, ◌++◌, map, refl, ap, sym, subst, nat_lt}
use Rattle.std.specs.List.{AllByRecursion, filter, find, prefix_len}
use Rattle.std.specs.Option.{option_map}
use Rattle.std.specs.Ordering.{nat_cmp, is_lt}
use Rattle.std.specs.Cmp.Lexicographic.{slice_cmp, bytes_decides}
use Rattle.std.specs.Str.{bytes_eq}
use Rattle.std.proofs.lemmas.Bool.{false≢true}
use Rattle.expr_nulls.specs.Row.{Row}
use Rattle.expr_nulls.specs.Schema.{Schema}
use Rattle.logical_plan.specs.declared.names.NameEntry.{NameEntry}
use Rattle.logical_plan.specs.declared.parts.Leaf.{Leaf}
use Rattle.logical_plan.specs.Leaves.{leaves}
use Rattle.logical_plan.specs.Meaning.{version_rows}
use Rattle.plan_changes.specs.declared.change.Change.{Change}
use Rattle.plan_changes.specs.declared.change.Change.TheVariants.{Create, Store, Insert, Remove, RemoveVersions}
use Rattle.plan_changes.specs.Changes.{is_named, has_array, place_of, new_entry, with_array, with_absent, with_version, without_below, arrays_after}
use Rattle.plan_changes.specs.Databases.{Stored, Database, entry_of, is_array, rows_in, rows_of, new_rows, has_stored, with_stored, with_absent_stored, with_rows, from_version, after}
use Rattle.logical_plan.proofs.LeafMeanings.{same_meaning}
use Rattle.plan_changes.specs.Others.{IsOther, OtherEntriesStay, OtherArraysStay, PlansOfOthersStay}
use Rattle.plan_changes.proofs.Found.{find_inserted, find_changed, find_kept, find_image}

-- what has one of two names hasn't the other
pub not_both : (a name other : List ℕ) → bytes_eq other name ≡ false → bytes_eq a name ≡ true → bytes_eq a other ≡ false
not_both a name other apart is = by_test (bytes_eq a other) refl
  where
    by_test : (b : Bool) → bytes_eq a other ≡ b → b ≡ false
    by_test false e = refl
    by_test true e =
        let same : a ≡ other = (bytes_decides a other).0 e in
        let yes : bytes_eq other name ≡ true = subst (λ (n : List ℕ). bytes_eq n name ≡ true) same is in
        absurd (false≢true (sym apart ∙ yes))

-- ---- entries

raised_name : (of name : List ℕ) (e : NameEntry) → is_named name (with_version of e) ≡ is_named name e
raised_name of name e = by_test (is_named of e)
  where
    by_test : (b : Bool) → is_named name (cond b (record e { next = e.next + 1; versions = e.versions ++ e.next ∷ [] }) e) ≡ is_named name e
    by_test true = refl
    by_test false = refl

raised_other : (of name : List ℕ) → bytes_eq of name ≡ false → (e : NameEntry) → is_named name e ≡ true → with_version of e ≡ e
raised_other of name apart e is = ap (λ (b : Bool). cond b (record e { next = e.next + 1; versions = e.versions ++ e.next ∷ [] }) e) (not_both e.name name of apart is)

cut_name : (of : List ℕ) (below : ℕ) (name : List ℕ) (e : NameEntry) → is_named name (without_below of below e) ≡ is_named name e
cut_name of below name e = by_test (is_named of e)
  where
    by_test : (b : Bool) → is_named name (cond b (record e { versions = filter (λ v. not (nat_lt v below)) e.versions }) e) ≡ is_named name e
    by_test true = refl
    by_test false = refl

cut_other : (of : List ℕ) (below : ℕ) (name : List ℕ) → bytes_eq of name ≡ false → (e : NameEntry) → is_named name e ≡ true → without_below of below e ≡ e
cut_other of below name apart e is = ap (λ (b : Bool). cond b (record e { versions = filter (λ v. not (nat_lt v below)) e.versions }) e) (not_both e.name name of apart is)

added_entry : (of : List ℕ) (schema : Schema) (name : List ℕ) → bytes_eq of name ≡ false → (es : List NameEntry) → find (is_named name) (with_array of schema es) ≡ find (is_named name) es
added_entry of schema name apart es = find_inserted (is_named name) (new_entry of schema) apart es (place_of es of)

absent_entry : (of : List ℕ) (schema : Schema) (name : List ℕ) → bytes_eq of name ≡ false → (es : List NameEntry) → find (is_named name) (with_absent of schema es) ≡ find (is_named name) es
absent_entry of schema name apart es = by_test (has_array es of)
  where
    by_test : (b : Bool) → find (is_named name) (cond b es (with_array of schema es)) ≡ find (is_named name) es
    by_test true = refl
    by_test false = added_entry of schema name apart es

raised_entry : (of name : List ℕ) → bytes_eq of name ≡ false → (es : List NameEntry) → find (is_named name) (map (with_version of) es) ≡ find (is_named name) es
raised_entry of name apart es = find_changed (is_named name) (with_version of) (raised_name of name) (raised_other of name apart) es

pub by_entries : (es : List NameEntry) (change : Change) (name : List ℕ) → IsOther change name → find (is_named name) (arrays_after es change) ≡ find (is_named name) es
by_entries es (Create of schema) name apart = added_entry of schema name apart es
by_entries es (Store of schema plan) name apart = raised_entry of name apart (with_absent of schema es) ∙ absent_entry of schema name apart es
by_entries es (Insert of schema plan) name apart = raised_entry of name apart es
by_entries es (Remove of) name apart = find_kept (is_named name) (λ e. not (is_named of e)) (λ e is. ap not (not_both e.name name of apart is)) es
by_entries es (RemoveVersions of below) name apart = find_changed (is_named name) (without_below of below) (cut_name of below name) (cut_other of below name apart) es

pub entries_stay : OtherEntriesStay
entries_stay names change name apart = by_entries names.arrays change name apart

-- ---- stored arrays

more_name : (of : List ℕ) (rows : List Row) (name : List ℕ) (a : Stored) → is_array name (with_rows of rows a) ≡ is_array name a
more_name of rows name a = by_test (is_array of a)
  where
    by_test : (b : Bool) → is_array name (cond b (record a { next = a.next + 1; versions = a.versions ++ record { number = a.next; rows = rows } ∷ [] }) a) ≡ is_array name a
    by_test true = refl
    by_test false = refl

more_other : (of : List ℕ) (rows : List Row) (name : List ℕ) → bytes_eq of name ≡ false → (a : Stored) → is_array name a ≡ true → with_rows of rows a ≡ a
more_other of rows name apart a is = ap (λ (b : Bool). cond b (record a { next = a.next + 1; versions = a.versions ++ record { number = a.next; rows = rows } ∷ [] }) a) (not_both a.name name of apart is)

fewer_name : (of : List ℕ) (below : ℕ) (name : List ℕ) (a : Stored) → is_array name (from_version of below a) ≡ is_array name a
fewer_name of below name a = by_test (is_array of a)
  where
    by_test : (b : Bool) → is_array name (cond b (record a { versions = filter (λ v. not (nat_lt v.number below)) a.versions }) a) ≡ is_array name a
    by_test true = refl
    by_test false = refl

fewer_other : (of : List ℕ) (below : ℕ) (name : List ℕ) → bytes_eq of name ≡ false → (a : Stored) → is_array name a ≡ true → from_version of below a ≡ a
fewer_other of below name apart a is = ap (λ (b : Bool). cond b (record a { versions = filter (λ v. not (nat_lt v.number below)) a.versions }) a) (not_both a.name name of apart is)

added_array : (of : List ℕ) (schema : Schema) (name : List ℕ) → bytes_eq of name ≡ false → (db : Database) → find (is_array name) (with_stored of schema db) ≡ find (is_array name) db
added_array of schema name apart db =
    find_inserted (is_array name) (record { name = of; schema = schema; next = 1; versions = [] }) apart db (prefix_len (λ a. is_lt (slice_cmp nat_cmp a.name of)) db)

absent_array : (of : List ℕ) (schema : Schema) (name : List ℕ) → bytes_eq of name ≡ false → (db : Database) → find (is_array name) (with_absent_stored of schema db) ≡ find (is_array name) db
absent_array of schema name apart db = by_test (has_stored db of)
  where
    by_test : (b : Bool) → find (is_array name) (cond b db (with_stored of schema db)) ≡ find (is_array name) db
    by_test true = refl
    by_test false = added_array of schema name apart db

more_array : (of : List ℕ) (rows : List Row) (name : List ℕ) → bytes_eq of name ≡ false → (db : Database) → find (is_array name) (map (with_rows of rows) db) ≡ find (is_array name) db
more_array of rows name apart db = find_changed (is_array name) (with_rows of rows) (more_name of rows name) (more_other of rows name apart) db

pub by_arrays : (db : Database) (change : Change) (name : List ℕ) → IsOther change name → find (is_array name) (after db change) ≡ find (is_array name) db
by_arrays db (Create of schema) name apart = added_array of schema name apart db
by_arrays db (Store of schema plan) name apart = more_array of (new_rows db (Store of schema plan)) name apart (with_absent_stored of schema db) ∙ absent_array of schema name apart db
by_arrays db (Insert of schema plan) name apart = more_array of (new_rows db (Insert of schema plan)) name apart db
by_arrays db (Remove of) name apart = find_kept (is_array name) (λ a. not (is_array of a)) (λ a is. ap not (not_both a.name name of apart is)) db
by_arrays db (RemoveVersions of below) name apart = find_changed (is_array name) (from_version of below) (fewer_name of below name) (fewer_other of below name apart) db

pub arrays_stay : OtherArraysStay
arrays_stay db change name apart =
    let same = by_arrays db change name apart in (
      find_image entry_of (is_named name) (after db change) ∙ ap (option_map entry_of) same ∙ sym (find_image entry_of (is_named name) db),
      λ number. ap (λ o. rows_in o number) same,
    )

-- ---- plans

leaf_stays : (db : Database) (change : Change) (leaf : Leaf) → IsOther change leaf.name → version_rows (rows_of (after db change)) leaf.name leaf.version ≡ version_rows (rows_of db) leaf.name leaf.version
leaf_stays db change leaf apart = by_number leaf.version
  where
    by_number : (n : ℕ) → version_rows (rows_of (after db change)) leaf.name n ≡ version_rows (rows_of db) leaf.name n
    by_number zero = refl
    by_number (suc n) = (arrays_stay db change leaf.name apart).1 (suc n)

each_stays : (db : Database) (change : Change) (ls : List Leaf) → AllByRecursion (λ leaf. IsOther change leaf.name) ls
    → AllByRecursion (λ leaf. version_rows (rows_of (after db change)) leaf.name leaf.version ≡ version_rows (rows_of db) leaf.name leaf.version) ls
each_stays db change [] all = tt
each_stays db change (leaf ∷ ls) all = (leaf_stays db change leaf all.0, each_stays db change ls all.1)

pub plans_stay : PlansOfOthersStay
plans_stay db change plan apart = same_meaning (rows_of (after db change)) (rows_of db) plan (each_stays db change (leaves plan) apart)
