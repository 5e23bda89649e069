-- A database of two arrays, and changes of one of them and of a third.
use Rattle.std.proofs.Common.{◌≡◌, ℕ, pos, true, List, [], ◌∷◌, Some, None, refl, codes}
use Rattle.expr_nulls.specs.Cell.TheVariants.{Full}
use Rattle.expr_nulls.specs.Datum.TheVariants.{Int}
use Rattle.expr_nulls.specs.Row.{Row}
use Rattle.expr_nulls.specs.Schema.{Schema}
use Rattle.expr_nulls.specs.Kind.TheVariants.{Int64}
use Rattle.logical_plan.specs.Rows.{placed}
use Rattle.logical_plan.specs.Meaning.{meaning, whole}
use Rattle.logical_plan.specs.Query.{scanned, listed}
use Rattle.plan_changes.specs.declared.change.Change.{Change}
use Rattle.plan_changes.specs.declared.change.Change.TheVariants.{Store, Insert, Remove, RemoveVersions}
use Rattle.plan_changes.specs.Changes.{entry_named}
use Rattle.plan_changes.specs.Databases.{Version, Stored, Database, names_of, rows_of, after}
use Rattle.plan_changes.specs.Others.{IsOther}

line : Schema
line = record { attributes = record { name = codes "v"; kind = Int64; nullable = true } ∷ []; dimensions = record { name = codes "i"; lo = pos 0; hi = pos 4; chunk = 5; overlap = 0 } ∷ [] }

one : ℕ → ℕ → List Row
one i n = placed (pos i ∷ []) (Full (Int (pos n) ∷ [])) ∷ []

version : ℕ → List Row → Version
version number rows = record { number = number; rows = rows }

array : List ℕ → ℕ → List Version → Stored
array name next versions = record { name = name; schema = line; next = next; versions = versions }

-- A@1, and C@1 and C@2
db : Database
db = array (codes "A") 2 (version 1 (one 3 7) ∷ []) ∷ array (codes "C") 3 (version 1 (one 0 1) ∷ version 2 (one 0 2) ∷ []) ∷ []

-- an insert into C of what A has, a new array B, no version of C below 2, and C removed
change : Change
change = Insert (codes "C") line (scanned (record { name = codes "A"; version = 1; schema = line }))

apart : (IsOther change (codes "A")) × (IsOther (Store (codes "B") line (listed line (one 1 1))) (codes "A")) × (IsOther (RemoveVersions (codes "C") 2) (codes "A")) × (IsOther (Remove (codes "C")) (codes "A"))
unfolding change
apart = (refl, refl, refl, refl)

after_insert : after db change ≡ array (codes "A") 2 (version 1 (one 3 7) ∷ []) ∷ array (codes "C") 4 (version 1 (one 0 1) ∷ version 2 (one 0 2) ∷ version 3 (placed (pos 0 ∷ []) (Full (Int (pos 2) ∷ [])) ∷ one 3 7) ∷ []) ∷ []
unfolding db change array version one line
after_insert = refl

entry_stays : entry_named (names_of (after db change)).arrays (codes "A") ≡ Some (record { name = codes "A"; schema = line; next = 2; versions = 1 ∷ [] })
unfolding db change array version one line
entry_stays = refl

rows_stay : (rows_of (after db change) (codes "A") 1 ≡ one 3 7) × (rows_of (after db (Store (codes "B") line (listed line (one 1 1)))) (codes "A") 1 ≡ one 3 7)
    × (rows_of (after db (RemoveVersions (codes "C") 2)) (codes "A") 1 ≡ one 3 7) × (rows_of (after db (Remove (codes "C"))) (codes "A") 1 ≡ one 3 7)
unfolding db change array version one line
rows_stay = (refl, refl, refl, refl)

-- the array of the change has another entry, and rows of more or fewer versions
own_entry : entry_named (names_of (after db (Remove (codes "C")))).arrays (codes "C") ≡ None
unfolding db array version one line
own_entry = refl

own_rows : (rows_of db (codes "C") 1 ≡ one 0 1) × (rows_of (after db (RemoveVersions (codes "C") 2)) (codes "C") 1 ≡ [])
unfolding db array version one line
own_rows = (refl, refl)

plan_stays : meaning (rows_of (after db change)) (scanned (record { name = codes "A"; version = 1; schema = line })) ≡ whole line (one 3 7)
unfolding db change array version one line
plan_stays = refl
