-- A database stays one through a typed change without fault.
use Rattle.std.proofs.Common.{◌≡◌, ℕ, zero, suc, ◌+◌, Bool, true, false, cond, not, ◌&&◌, ◌||◌, nat_eq, nat_lt, List, [], ◌∷◌, ◌++◌, map, Option, Some, None, Result, Ok, Err, refl, sym, ap, subst, ◌∙◌}
use Rattle.std.specs.Prelude.{IfOk, IsTrue}
use Rattle.std.specs.List.{AllByRecursion, filter, find, list_all, prefix_len}
use Rattle.std.specs.Ordering.{nat_cmp, is_lt, ordering_reverse}
use Rattle.std.specs.Cmp.Lexicographic.{slice_cmp, bytes_decides}
use Rattle.std.specs.Str.{bytes_eq}
use Rattle.std.specs.declared.cmp.Ordering.{Ordering}
use Rattle.std.specs.declared.cmp.Ordering.TheVariants.{Less, Equal, Greater}
use Rattle.std.proofs.lemmas.Bool.{false≢true, and_parts}
use Rattle.std.proofs.lemmas.Option.{none-some, same_Some}
use Rattle.std.proofs.lemmas.Cmp.{nat_list_cmp_total}
use Rattle.expr_nulls.specs.Schemas.{IsValid, is_valid}
use Rattle.expr_nulls.specs.Broken.{Broken}
use Rattle.expr_nulls.specs.Datum.{Datum}
use Rattle.expr_nulls.specs.Row.{Row}
use Rattle.expr_nulls.specs.Schema.{Schema}
use Rattle.expr_nulls.specs.Cells.{AreOfKinds, IsCellOf}
use Rattle.logical_plan.specs.Arrays.{AreRowsOf}
use Rattle.logical_plan.specs.Boxes.{is_inside, bounds_of}
use Rattle.logical_plan.specs.Rows.{put_row, put_by, put_all, row_major}
use Rattle.logical_plan.proofs.RowSets.{IsRising-put_all}
use Rattle.logical_plan.specs.declared.names.NameEntry.{NameEntry}
use Rattle.logical_plan.specs.declared.parts.Leaf.{Leaf}
use Rattle.logical_plan.specs.CellOps.{fit_rows}
use Rattle.logical_plan.specs.Faults.{if_whole, fault_of}
use Rattle.logical_plan.specs.Leaves.{leaves}
use Rattle.logical_plan.specs.Meaning.{meaning, version_rows}
use Rattle.logical_plan.specs.PlanSchema.{schema_of}
use Rattle.logical_plan.specs.Query.{Query}
use Rattle.logical_plan.specs.Typing.{same_bounds, is_sound, AreSound}
use Rattle.logical_plan.proofs.ArrayLaws.{keeps_places, typed_arrays}
use Rattle.plan_changes.specs.declared.change.Change.{Change}
use Rattle.plan_changes.specs.declared.change.Change.TheVariants.{Create, Store, Insert, Remove, RemoveVersions}
use Rattle.plan_changes.specs.Allowed.{has_room, has_number}
use Rattle.plan_changes.specs.Changes.{is_named, has_array, entry_named}
use Rattle.plan_changes.specs.Databases.{Version, Stored, Database, entry_of, names_of, is_array, rows_or, rows_in, rows_of, newest_in, newest_rows, fitted, fault_of_change, rows_if_whole, new_rows, has_stored, with_stored, with_absent_stored, with_rows, from_version, after}
use Rattle.plan_changes.specs.Stored.{is_before, NamesRise, IsStored, AreStored, IsDatabase}
use Rattle.plan_changes.specs.Typed.{same_kinds, IsVersionOf, IsTypedOver, FitsInto, IsTypedFor}
use Rattle.plan_changes.specs.Kept.{MeansArray, StoresArray, ChangesKeepDatabases}
use Rattle.plan_changes.proofs.FitLaws.{mapped, bounds_alike, kinds_alike, fit_array, fit_sound}
use Rattle.plan_changes.proofs.NamesOf.{names_depend_on_no_row}
use Rattle.plan_changes.proofs.StoredLaws.{RiseAfter, names_in, after_next, tail_rises, all_inserted, all_less, changes_keep_names}

-- ---- lists

weaker : {A : Type 0} (P Q : A → Type 0) → ((x : A) → P x → Q x) → (xs : List A) → AllByRecursion P xs → AllByRecursion Q xs
weaker P Q h [] all = tt
weaker P Q h (x ∷ xs) all = (h x all.0, weaker P Q h xs all.1)

both_hold : {A : Type 0} (P Q : A → Type 0) (xs : List A) → AllByRecursion P xs → AllByRecursion Q xs → AllByRecursion (λ x. P x × Q x) xs
both_hold P Q [] a b = tt
both_hold P Q (x ∷ xs) a b = ((a.0, b.0), both_hold P Q xs a.1 b.1)

appended : {A : Type 0} (P : A → Type 0) (xs : List A) (x : A) → AllByRecursion P xs → P x → AllByRecursion P (xs ++ x ∷ [])
appended P [] x all px = (px, tt)
appended P (y ∷ ys) x all px = (all.0, appended P ys x all.1 px)

-- ---- rows of an array

-- rows that may be a version of an array of a schema
abbrev MayStand : Schema → List Row → Type 0
MayStand schema rows = AreRowsOf schema rows × AreSound schema rows

no_rows : (schema : Schema) → IsValid schema → MayStand schema []
no_rows schema valid = (record { valid = valid; are_rows = record { rising = tt; in_bounds = tt }; kinds = tt }, tt)

put_one : (P : Row → Type 0) (new : Row) (rows : List Row) → P new → AllByRecursion P rows → AllByRecursion P (put_row new rows)
put_one P new [] p all = (p, tt)
put_one P new (row ∷ rows) p all = by_order (row_major new.at.items row.at.items) (put_one P new rows p all.1)
  where
    by_order : (o : Ordering) → AllByRecursion P (put_row new rows) → AllByRecursion P (put_by o new row rows (put_row new rows))
    by_order Less more = (p, all)
    by_order Equal more = (p, all.1)
    by_order Greater more = (all.0, more)

put_each : (P : Row → Type 0) (new rows : List Row) → AllByRecursion P new → AllByRecursion P rows → AllByRecursion P (put_all new rows)
put_each P [] rows a b = b
put_each P (row ∷ new) rows a b = put_one P row (put_all new rows) a.0 (put_each P new rows a.1 b)

both_stand : (schema : Schema) (new old : List Row) → MayStand schema new → MayStand schema old → MayStand schema (put_all new old)
both_stand schema new old a b = (
  record {
    valid = a.0.valid;
    are_rows = record {
      rising = IsRising-put_all new old b.0.are_rows.rising;
      in_bounds = put_each (λ row. IsTrue (is_inside (bounds_of schema.dimensions) row.at.items)) new old a.0.are_rows.in_bounds b.0.are_rows.in_bounds;
    };
    kinds = put_each (λ row. IsCellOf schema.attributes row.cell) new old a.0.kinds b.0.kinds;
  },
  put_each (λ row. IsTrue (is_sound schema.attributes row.cell)) new old a.1 b.1,
)

-- ---- the array of a name

abbrev Holds : Stored → Type 0
Holds a = AllByRecursion (λ v. MayStand a.schema v.rows) a.versions

-- an array of this name has this schema
abbrev HasSchema : List ℕ → Schema → Stored → Type 0
HasSchema name schema a = is_array name a ≡ true → a.schema ≡ schema

-- rows may be a version of an array of this name
abbrev Suits : List ℕ → List Row → Stored → Type 0
Suits name rows a = is_array name a ≡ true → MayStand a.schema rows

suits_all : (name : List ℕ) (schema : Schema) (rows : List Row) → MayStand schema rows → (db : Database) → AllByRecursion (HasSchema name schema) db → AllByRecursion (Suits name rows) db
suits_all name schema rows stand db all = weaker (HasSchema name schema) (Suits name rows) (λ a same yes. subst (λ (s : Schema). MayStand s rows) (sym (same yes)) stand) db all

flips : (o : Ordering) → o ≡ ordering_reverse o → is_lt o ≡ true → ⊥
flips Less e l = cc
flips Equal e l = cc
flips Greater e l = cc

not_before_itself : (name : List ℕ) → is_before name name ≡ true → ⊥
not_before_itself name l = flips (slice_cmp nat_cmp name name) (nat_list_cmp_total.antisymm name name) l

same_bytes : (a b : List ℕ) → bytes_eq a b ≡ true → a ≡ b
same_bytes a b e = (bytes_decides a b).0 e

pub apart : (name prev next : List ℕ) → bytes_eq prev name ≡ true → is_before prev next ≡ true → bytes_eq next name ≡ true → ⊥
apart name prev next e l f =
    let p : prev ≡ name = same_bytes prev name e in
    let q : next ≡ name = same_bytes next name f in
    not_before_itself name (subst (λ (n : List ℕ). is_before name n ≡ true) q (subst (λ (n : List ℕ). is_before n next ≡ true) p l))

-- of arrays whose names rise none behind the first one of a name has it
none_behind : (name prev : List ℕ) (schema : Schema) (db : Database) → bytes_eq prev name ≡ true → RiseAfter prev (map entry_of db) → AllByRecursion (HasSchema name schema) db
none_behind name prev schema [] e rise = tt
none_behind name prev schema (a ∷ db) e rise = (λ yes. absurd (apart name prev a.name e rise.0 yes), none_behind name prev schema db e (after_next prev (entry_of a) (map entry_of db) rise))

found_schema : (name : List ℕ) (schema : Schema) (entry : NameEntry) (db : Database) → schema ≡ entry.schema → NamesRise (names_in (map entry_of db)) → find (is_named name) (map entry_of db) ≡ Some entry
    → AllByRecursion (HasSchema name schema) db
found_schema name schema entry [] same rise found = tt
found_schema name schema entry (a ∷ db) same rise found = by_test (is_array name a) refl found (λ f. found_schema name schema entry db same (tail_rises (entry_of a) (map entry_of db) rise) f)
  where
    by_test : (b : Bool) → is_array name a ≡ b → cond b (Some (entry_of a)) (find (is_named name) (map entry_of db)) ≡ Some entry
        → (find (is_named name) (map entry_of db) ≡ Some entry → AllByRecursion (HasSchema name schema) db) → AllByRecursion (HasSchema name schema) (a ∷ db)
    by_test true t f later = let e : a.schema ≡ schema = ap (λ (x : NameEntry). x.schema) (same_Some (entry_of a) entry f) ∙ sym same in (λ yes. e, none_behind name a.name schema db t rise)
    by_test false t f later = (λ yes. absurd (false≢true (sym t ∙ yes)), later f)

none_named : (name : List ℕ) (db : Database) → find (is_named name) (map entry_of db) ≡ None → AllByRecursion (λ a. is_array name a ≡ false) db
none_named name [] none = tt
none_named name (a ∷ db) none = by_test (is_array name a) refl none (none_named name db)
  where
    by_test : (b : Bool) → is_array name a ≡ b → cond b (Some (entry_of a)) (find (is_named name) (map entry_of db)) ≡ None
        → (find (is_named name) (map entry_of db) ≡ None → AllByRecursion (λ (x : Stored). is_array name x ≡ false) db) → AllByRecursion (λ (x : Stored). is_array name x ≡ false) (a ∷ db)
    by_test true t f later = absurd (none-some (entry_of a) (sym f))
    by_test false t f later = (t, later f)

-- the schema that fits into what is found is that of each array of the name
fitting_schema : (name : List ℕ) (schema : Schema) (plan : Query) (db : Database) → NamesRise (names_in (map entry_of db)) → FitsInto (entry_named (map entry_of db) name) schema plan → AllByRecursion (HasSchema name schema) db
fitting_schema name schema plan db rise fits = by_found (find (is_named name) (map entry_of db)) refl fits
  where
    by_found : (o : Option NameEntry) → find (is_named name) (map entry_of db) ≡ o → FitsInto o schema plan → AllByRecursion (HasSchema name schema) db
    by_found None e f = weaker (λ a. is_array name a ≡ false) (HasSchema name schema) (λ a no yes. absurd (false≢true (sym no ∙ yes))) db (none_named name db e)
    by_found (Some entry) e f = found_schema name schema entry db f.0 rise e

found_stored : (name : List ℕ) (entry : NameEntry) (es : List NameEntry) → AllByRecursion IsStored es → find (is_named name) es ≡ Some entry → IsStored entry
found_stored name entry [] all e = absurd (none-some entry e)
found_stored name entry (x ∷ es) all e = by_test (is_named name x) e (found_stored name entry es all.1)
  where
    by_test : (b : Bool) → cond b (Some x) (find (is_named name) es) ≡ Some entry → (find (is_named name) es ≡ Some entry → IsStored entry) → IsStored entry
    by_test true f later = subst IsStored (same_Some x entry f) all.0
    by_test false f later = later f

-- ---- rows that are read

found_version : (schema : Schema) (k : ℕ) → IsValid schema → (versions : List Version) → AllByRecursion (λ v. MayStand schema v.rows) versions → MayStand schema (rows_or (find (λ v. nat_eq v.number k) versions))
found_version schema k valid [] all = no_rows schema valid
found_version schema k valid (v ∷ versions) all = by_test (nat_eq v.number k) (found_version schema k valid versions all.1)
  where
    by_test : (b : Bool) → MayStand schema (rows_or (find (λ w. nat_eq w.number k) versions)) → MayStand schema (rows_or (cond b (Some v) (find (λ w. nat_eq w.number k) versions)))
    by_test true later = all.0
    by_test false later = later

found_rows : (name : List ℕ) (schema : Schema) (k : ℕ) → IsValid schema → (db : Database) → AllByRecursion Holds db → AllByRecursion (HasSchema name schema) db → MayStand schema (rows_of db name k)
found_rows name schema k valid [] holds same = no_rows schema valid
found_rows name schema k valid (a ∷ db) holds same = by_test (is_array name a) refl (found_rows name schema k valid db holds.1 same.1)
  where
    by_test : (b : Bool) → is_array name a ≡ b → MayStand schema (rows_in (find (is_array name) db) k) → MayStand schema (rows_in (cond b (Some a) (find (is_array name) db)) k)
    by_test true t later =
        let e : a.schema ≡ schema = same.0 t in
        found_version schema k valid a.versions (subst (λ (s : Schema). AllByRecursion (λ (v : Version). MayStand s v.rows) a.versions) e holds.0)
    by_test false t later = later

-- ---- plans over a database

-- a version that a plan reads is an array
pub leaf_rows : (db : Database) → IsDatabase db → (leaf : Leaf) → IsVersionOf leaf (entry_named (map entry_of db) leaf.name) → AreRowsOf leaf.schema (version_rows (rows_of db) leaf.name leaf.version)
leaf_rows db is leaf v = by_found (find (is_named leaf.name) (map entry_of db)) refl v
  where
    by_number : IsValid leaf.schema → AllByRecursion (HasSchema leaf.name leaf.schema) db → (k : ℕ) → AreRowsOf leaf.schema (version_rows (rows_of db) leaf.name k)
    by_number valid same zero = (no_rows leaf.schema valid).0
    by_number valid same (suc n) = (found_rows leaf.name leaf.schema (suc n) valid db is.rows same).0

    by_found : (o : Option NameEntry) → find (is_named leaf.name) (map entry_of db) ≡ o → IsVersionOf leaf o → AreRowsOf leaf.schema (version_rows (rows_of db) leaf.name leaf.version)
    by_found None e f = absurd f
    by_found (Some entry) e f =
        by_number (subst IsValid (sym f.0) (found_stored leaf.name entry (map entry_of db) is.names.each e).schema) (found_schema leaf.name leaf.schema entry db f.0 is.names.rising e) leaf.version

pub plans_mean_arrays : (plan : Query) → keeps_places plan ≡ true → (db : Database) → IsDatabase db → IsTypedOver (names_of db) plan → MeansArray db plan
plans_mean_arrays plan keeps db is typed =
    typed_arrays (rows_of db) plan keeps typed.typed
    (weaker (λ leaf. IsVersionOf leaf (entry_named (map entry_of db) leaf.name)) (λ leaf. AreRowsOf leaf.schema (version_rows (rows_of db) leaf.name leaf.version)) (leaf_rows db is) (leaves plan) typed.reads)

-- ---- rows that are stored

-- what the schema that fits has in common with the plan's
fits_like : (o : Option NameEntry) (schema : Schema) (plan : Query) → FitsInto o schema plan
    → (bounds_of schema.dimensions ≡ bounds_of (schema_of plan).dimensions) × ((vs : List Datum) → AreOfKinds (schema_of plan).attributes vs → AreOfKinds schema.attributes vs)
fits_like None schema plan f = (ap (λ (s : Schema). bounds_of s.dimensions) f, λ vs k. subst (λ (s : Schema). AreOfKinds s.attributes vs) (sym f) k)
fits_like (Some entry) schema plan f =
    let same = and_parts (same_kinds schema.attributes (schema_of plan).attributes) (same_bounds schema.dimensions (schema_of plan).dimensions) f.1 in
    (bounds_alike schema.dimensions (schema_of plan).dimensions same.1, kinds_alike schema.attributes (schema_of plan).attributes same.0)

fitted_stand : (schema from : Schema) → IsValid schema → bounds_of schema.dimensions ≡ bounds_of from.dimensions → ((vs : List Datum) → AreOfKinds from.attributes vs → AreOfKinds schema.attributes vs)
    → (r : Result (List Row) Broken) → IfOk r (AreRowsOf from) → fault_of (if_whole (fit_rows schema.attributes) r) ≡ None → MayStand schema (rows_if_whole (if_whole (fit_rows schema.attributes) r))
fitted_stand schema from valid bounds kinds (Ok rows) is none = (fit_array schema from rows valid bounds kinds is, fit_sound schema rows none)
fitted_stand schema from valid bounds kinds (Err broken) is none = absurd (none-some broken (sym none))

new_stand : (db : Database) (o : Option NameEntry) (schema : Schema) (plan : Query) → IsValid schema → FitsInto o schema plan → IfOk (meaning (rows_of db) plan).rows (AreRowsOf (schema_of plan)) → fault_of (fitted schema plan db) ≡ None
    → MayStand schema (rows_if_whole (fitted schema plan db))
new_stand db o schema plan valid fits means none =
    let like = fits_like o schema plan fits in
    fitted_stand schema (schema_of plan) valid like.0 like.1 (meaning (rows_of db) plan).rows means none

add_rows : (name : List ℕ) (rows : List Row) (a : Stored) → Suits name rows a × Holds a → Holds (with_rows name rows a)
add_rows name rows a h = by_test (is_array name a) refl
  where
    by_test : (b : Bool) → is_array name a ≡ b → Holds (cond b (record a { next = a.next + 1; versions = a.versions ++ record { number = a.next; rows = rows } ∷ [] }) a)
    by_test true t = appended (λ v. MayStand a.schema v.rows) a.versions (record { number = a.next; rows = rows }) h.1 (h.0 t)
    by_test false t = h.1

rows_added : (name : List ℕ) (rows : List Row) (db : Database) → AllByRecursion (Suits name rows) db → AllByRecursion Holds db → AllByRecursion Holds (map (with_rows name rows) db)
rows_added name rows db suits holds = mapped (λ a. Suits name rows a × Holds a) Holds (with_rows name rows) (add_rows name rows) db (both_hold (Suits name rows) Holds db suits holds)

-- an array that is made has the schema, and no version
with_new : (P : Stored → Type 0) (name : List ℕ) (schema : Schema) (db : Database) → P (record { name = name; schema = schema; next = 1; versions = [] }) → AllByRecursion P db → AllByRecursion P (with_stored name schema db)
with_new P name schema db p all = all_inserted P (record { name = name; schema = schema; next = 1; versions = [] }) db (prefix_len (λ a. is_lt (slice_cmp nat_cmp a.name name)) db) p all

with_absent_new : (P : Stored → Type 0) (name : List ℕ) (schema : Schema) (db : Database) → P (record { name = name; schema = schema; next = 1; versions = [] }) → AllByRecursion P db → AllByRecursion P (with_absent_stored name schema db)
with_absent_new P name schema db p all = by_test (has_stored db name)
  where
    by_test : (b : Bool) → AllByRecursion P (cond b db (with_stored name schema db))
    by_test true = all
    by_test false = with_new P name schema db p all

cut_one : (name : List ℕ) (below : ℕ) (a : Stored) → Holds a → Holds (from_version name below a)
cut_one name below a h = by_test (is_array name a)
  where
    by_test : (b : Bool) → Holds (cond b (record a { versions = filter (λ v. not (nat_lt v.number below)) a.versions }) a)
    by_test true = all_less (λ v. MayStand a.schema v.rows) (λ v. not (nat_lt v.number below)) a.versions h
    by_test false = h

-- an insert into the array that is found
insert_suits : (db : Database) → IsDatabase db → (name : List ℕ) (schema : Schema) (plan : Query) → FitsInto (entry_named (map entry_of db) name) schema plan → IfOk (meaning (rows_of db) plan).rows (AreRowsOf (schema_of plan)) → fault_of (fitted schema plan db) ≡ None
    → AllByRecursion (Suits name (put_all (rows_if_whole (fitted schema plan db)) (newest_rows db name))) db
insert_suits db is name schema plan fits means none = by_found (find (is_named name) (map entry_of db)) refl fits
  where
    rows : List Row
    rows = put_all (rows_if_whole (fitted schema plan db)) (newest_rows db name)

    by_found : (o : Option NameEntry) → find (is_named name) (map entry_of db) ≡ o → FitsInto o schema plan → AllByRecursion (Suits name rows) db
    by_found None e f = weaker (λ a. is_array name a ≡ false) (Suits name rows) (λ a no yes. absurd (false≢true (sym no ∙ yes))) db (none_named name db e)
    by_found (Some entry) e f =
        let valid : IsValid schema = subst IsValid (sym f.0) (found_stored name entry (map entry_of db) is.names.each e).schema in
        let same : AllByRecursion (HasSchema name schema) db = found_schema name schema entry db f.0 is.names.rising e in
        suits_all name schema rows
        (both_stand schema (rows_if_whole (fitted schema plan db)) (newest_rows db name) (new_stand db (Some entry) schema plan valid f means none) (found_rows name schema (newest_in (find (is_array name) db)) valid db is.rows same)) db same

holds_after : (db : Database) (change : Change) → IsDatabase db → IsTypedFor (names_of db) change → StoresArray db change → fault_of_change db change ≡ None → AllByRecursion Holds (after db change)
holds_after db (Create name schema) is typed stores none = with_new Holds name schema db tt is.rows
holds_after db (Store name schema plan) is typed stores none =
    let valid : IsValid schema = (and_parts (is_valid schema) ((has_array (map entry_of db) name || has_room (map entry_of db)) && list_all (has_number name) (map entry_of db)) typed.0).0 in
    let stand = new_stand db (entry_named (map entry_of db) name) schema plan valid typed.1.1 stores none in
    rows_added name (rows_if_whole (fitted schema plan db)) (with_absent_stored name schema db)
    (suits_all name schema (rows_if_whole (fitted schema plan db)) stand (with_absent_stored name schema db)
    (with_absent_new (HasSchema name schema) name schema db (λ yes. refl) (fitting_schema name schema plan db is.names.rising typed.1.1)))
    (with_absent_new Holds name schema db tt is.rows)
holds_after db (Insert name schema plan) is typed stores none = rows_added name (new_rows db (Insert name schema plan)) db (insert_suits db is name schema plan typed.1.1 stores none) is.rows
holds_after db (Remove name) is typed stores none = all_less Holds (λ a. not (is_array name a)) db is.rows
holds_after db (RemoveVersions name below) is typed stores none = mapped Holds Holds (from_version name below) (cut_one name below) db is.rows

pub changes_keep_databases : ChangesKeepDatabases
changes_keep_databases db change is named typed stores none = record {
  names = subst AreStored (sym (names_depend_on_no_row db change)) (changes_keep_names (names_of db) change is.names named typed.0);
  rows = holds_after db change is typed stores none;
}
