-- A change that was checked at a pin, and a commit of another array behind it.
use Rattle.std.proofs.Common.{◌≡◌, pos, true, false, [], ◌∷◌, ◌++◌, Some, refl, codes}
use Rattle.cell_values.specs.declared.datum.Cell.TheVariants.{Full}
use Rattle.cell_values.specs.declared.datum.Datum.TheVariants.{Int}
use Rattle.array_rows.specs.Rows.{placed}
use Rattle.std.specs.List.{filter}
use Rattle.expr_nulls.specs.Expr.{literal}
use Rattle.logical_plan.specs.Query.{built, scanned}
use Rattle.plan_changes.specs.declared.change.Change.{Change}
use Rattle.plan_changes.specs.declared.change.Change.TheVariants.{Create, Store, Insert, Remove}
use Rattle.plan_changes.specs.Changes.{entry_named}
use Rattle.plan_changes.specs.Databases.{rows_of, new_rows}
use Rattle.event_core.specs.declared.entry.Entry.TheVariants.{Pin, Unpin, Commit}
use Rattle.event_core.specs.Cells.{at}
use Rattle.event_core.specs.History.{History, names_at, pages_at, is_pages_of}
use Rattle.event_core.specs.Worked.{worked_base, worked_schema, worked_store}
use Rattle.array_store.specs.ChangesLeft.{IsLeft}
use Rattle.array_store.specs.FreshLaws.{AreLeft, SameRoom}

-- A is stored; session 1 pins
before : History
before = Pin 1 ∷ Unpin 0 ∷ Commit 0 worked_store (record { version = 2 ∷ 3 ∷ []; catalogue = 4 ∷ [] }) ∷ Pin 0 ∷ []

-- session 0 makes B
later : History
later = Commit 0 (Create (codes "B") worked_schema) (record { version = []; catalogue = 5 ∷ [] }) ∷ Pin 0 ∷ []

-- session 1 inserts A into itself
change : Change
change = Insert (codes "A") worked_schema (scanned (record { name = codes "A"; version = 1; schema = worked_schema }))

left : AreLeft later change
unfolding later change
left = (refl, (refl, tt))

room : SameRoom worked_base later before
unfolding later before
room = refl

entry_stays : entry_named (names_at worked_base (later ++ before)).arrays (codes "A") ≡ Some (record { name = codes "A"; schema = worked_schema; next = 2; versions = 1 ∷ [] })
unfolding later before
entry_stays = refl

pages_stay : filter (is_pages_of (codes "A")) (pages_at worked_base (later ++ before)) ≡ record { name = codes "A"; version = 1; pages = 2 ∷ 3 ∷ [] } ∷ []
unfolding later before
pages_stay = refl

stored_alike : new_rows (at [] (later ++ before)) change ≡ placed (pos 0 ∷ []) (Full (Int (pos 7) ∷ [])) ∷ placed (pos 1 ∷ []) (Full (Int (pos 7) ∷ [])) ∷ []
unfolding later before change
stored_alike = refl

-- a commit about A is another matter
removed : IsLeft (Commit 0 (Remove (codes "A")) (record { version = []; catalogue = 5 ∷ [] }) ∷ []) (codes "A") ≡ (false ≡ true)
removed = refl

-- An array that is removed and stored again may have the very entry that it had, with other rows: equal entries alone tell nothing
again : History
again =
    Commit 0 (Store (codes "A") worked_schema (built worked_schema (literal (Int (pos 8))))) (record { version = 6 ∷ 7 ∷ []; catalogue = 8 ∷ [] })
    ∷ Pin 0
    ∷ Unpin 0
    ∷ Commit 0 (Remove (codes "A")) (record { version = []; catalogue = 5 ∷ [] })
    ∷ Pin 0
    ∷ []

same_entry : entry_named (names_at worked_base (again ++ before)).arrays (codes "A") ≡ entry_named (names_at worked_base before).arrays (codes "A")
unfolding again before
same_entry = refl

other_rows : (rows_of (at [] before) (codes "A") 1 ≡ placed (pos 0 ∷ []) (Full (Int (pos 7) ∷ [])) ∷ placed (pos 1 ∷ []) (Full (Int (pos 7) ∷ [])) ∷ [])
    × (rows_of (at [] (again ++ before)) (codes "A") 1 ≡ placed (pos 0 ∷ []) (Full (Int (pos 8) ∷ [])) ∷ placed (pos 1 ∷ []) (Full (Int (pos 8) ∷ [])) ∷ [])
unfolding again before
other_rows = (refl, refl)
