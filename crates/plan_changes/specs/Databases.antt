-- Databases, and what a change makes of one.
use Rattle.std.specs.Prelude.{◌≡◌, ℕ, ◌+◌, Bool, if◌then◌else◌, not, List, [], ◌∷◌, ◌++◌, map, insert, nat_eq, nat_lt, Option, None, Some, Result, Ok, Err}
use Rattle.std.specs.List.{AllByRecursion, filter, find, list_any, prefix_len}
use Rattle.std.specs.Ordering.{nat_cmp, is_lt}
use Rattle.std.specs.Cmp.Lexicographic.{slice_cmp}
use Rattle.std.specs.Str.{bytes_eq}
use Rattle.expr_nulls.specs.Broken.{Broken}
use Rattle.expr_nulls.specs.Row.{Row}
use Rattle.expr_nulls.specs.Schema.{Schema}
use Rattle.logical_plan.specs.Arrays.{AreRowsOf}
use Rattle.logical_plan.specs.Rows.{put_all}
use Rattle.logical_plan.specs.CellOps.{fit_rows}
use Rattle.logical_plan.specs.Faults.{if_whole, fault_of}
use Rattle.logical_plan.specs.Meaning.{meaning}
use Rattle.logical_plan.specs.Query.{Query}
use Rattle.logical_plan.specs.Typing.{AreSound}
use Rattle.logical_plan.specs.declared.names.NameEntry.{NameEntry}
use Rattle.logical_plan.specs.declared.names.Names.{Names}
use Rattle.plan_changes.specs.declared.change.Change.{Change}
use Rattle.plan_changes.specs.declared.change.Change.TheVariants.{Create, Store, Insert, Remove, RemoveVersions}
use Rattle.plan_changes.specs.Changes.{last_of, names_after}

-- a version: its number and its rows
pub record Version : Type 0 where
  pub number : ℕ
  pub rows : List Row

-- a stored array: its versions rise by number, and each number is below the next one
pub record Stored : Type 0 where
  pub name : List ℕ
  pub schema : Schema
  pub next : ℕ
  pub versions : List Version

-- the stored arrays, rising by name
abbrev pub Database : Type 0
Database = List Stored

-- a version holds rows of the array's schema, none in doubt, none with a fault or with a null where none may be
abbrev pub HoldsArrays : Database → Type 0
HoldsArrays = AllByRecursion (λ a. AllByRecursion (λ v. AreRowsOf a.schema v.rows × AreSound a.schema v.rows) a.versions)

-- the names of a database
abbrev pub entry_of : Stored → NameEntry
entry_of a = record { name = a.name; schema = a.schema; next = a.next; versions = map (λ v. v.number) a.versions }

abbrev pub names_of : Database → Names
names_of db = record { arrays = map entry_of db }

-- ---- what plans see

abbrev pub is_array : List ℕ → Stored → Bool
is_array name a = bytes_eq a.name name

abbrev pub rows_or : Option Version → List Row
rows_or None = []
rows_or (Some v) = v.rows

abbrev pub rows_in : Option Stored → ℕ → List Row
rows_in None number = []
rows_in (Some a) number = rows_or (find (λ v. nat_eq v.number number) a.versions)

-- the rows of each version of each name; none where there is no such version
abbrev pub rows_of : Database → List ℕ → ℕ → List Row
rows_of db name number = rows_in (find (is_array name) db) number

abbrev pub newest_in : Option Stored → ℕ
newest_in None = 0
newest_in (Some a) = last_of (map (λ v. v.number) a.versions)

-- the rows of the newest version; none where there is no version
abbrev pub newest_rows : Database → List ℕ → List Row
newest_rows db name = rows_of db name (newest_in (find (is_array name) db))

-- ---- what changes store

-- the rows of a plan's array as the schema has them, or where and why it is broken
abbrev pub fitted : Schema → Query → Database → Result (List Row) Broken
fitted schema plan db = if_whole (fit_rows schema.attributes) (meaning (rows_of db) plan).rows

-- a change whose plan's array has a fault is refused for it
abbrev pub fault_of_change : Database → Change → Option Broken
fault_of_change db (Create name schema) = None
fault_of_change db (Store name schema plan) = fault_of (fitted schema plan db)
fault_of_change db (Insert name schema plan) = fault_of (fitted schema plan db)
fault_of_change db (Remove name) = None
fault_of_change db (RemoveVersions name below) = None

-- of an array that is broken nothing is stored
abbrev pub rows_if_whole : Result (List Row) Broken → List Row
rows_if_whole (Ok rows) = rows
rows_if_whole (Err broken) = []

-- the rows of the new version: those of the plan's array, of an insert put into those of the newest version
abbrev pub new_rows : Database → Change → List Row
new_rows db (Create name schema) = []
new_rows db (Store name schema plan) = rows_if_whole (fitted schema plan db)
new_rows db (Insert name schema plan) = put_all (rows_if_whole (fitted schema plan db)) (newest_rows db name)
new_rows db (Remove name) = []
new_rows db (RemoveVersions name below) = []

-- ---- the database after a change

abbrev pub has_stored : Database → List ℕ → Bool
has_stored db name = list_any (is_array name) db

-- one more array without versions, in its place by name
abbrev pub with_stored : List ℕ → Schema → Database → Database
with_stored name schema db = insert db (prefix_len (λ a. is_lt (slice_cmp nat_cmp a.name name)) db)
    (record { name = name; schema = schema; next = 1; versions = [] })

abbrev pub with_absent_stored : List ℕ → Schema → Database → Database
with_absent_stored name schema db = if has_stored db name then db else with_stored name schema db

-- one more version under the next number, which rises by 1
abbrev pub with_rows : List ℕ → List Row → Stored → Stored
with_rows name rows a = if is_array name a then record a { next = a.next + 1; versions = a.versions ++ record { number = a.next; rows = rows } ∷ [] } else a

-- no version below a number. The next number stays
abbrev pub from_version : List ℕ → ℕ → Stored → Stored
from_version name below a = if is_array name a then record a { versions = filter (λ v. not (nat_lt v.number below)) a.versions } else a

-- the rows of the new version are told by the database before the change
abbrev pub after : Database → Change → Database
after db (Create name schema) = with_stored name schema db
after db (Store name schema plan) = map (with_rows name (new_rows db (Store name schema plan))) (with_absent_stored name schema db)
after db (Insert name schema plan) = map (with_rows name (new_rows db (Insert name schema plan))) db
after db (Remove name) = filter (λ a. not (is_array name a)) db
after db (RemoveVersions name below) = map (from_version name below) db

-- the names after a change are told by the names before it
abbrev pub NamesDependOnNoRow : Type 0
NamesDependOnNoRow = (db : Database) (change : Change) → names_of (after db change) ≡ names_after (names_of db) change
