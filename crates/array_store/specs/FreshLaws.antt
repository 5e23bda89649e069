-- Changes that read, and are about, no array which a commit of some later entries is about.
use Rattle.std.specs.Prelude.{◌≡◌, ℕ, List, ◌++◌, Ok}
use Rattle.std.specs.List.{AllByRecursion}
use Rattle.afl_trees.specs.Term.{Term}
use Rattle.plan_changes.specs.declared.change.Change.{Change}
use Rattle.plan_changes.specs.Allowed.{has_room}
use Rattle.plan_changes.specs.Databases.{Database, fault_of_change, new_rows}
use Rattle.plan_changes.specs.Typed.{IsTypedFor}
use Rattle.afl_types.specs.Checking.{check_of}
use Rattle.afl_types.specs.declared.types.statements.checking.Typed.TheVariants.{Change as AChange}
use Rattle.event_core.specs.declared.state.Core.{Core}
use Rattle.event_core.specs.Cells.{at}
use Rattle.event_core.specs.History.{History, names_at}
use Rattle.afl_types.specs.NamesLaws.{change_names}
use Rattle.array_store.specs.ChangesLeft.{IsLeft}

-- no commit is about an array that a change reads or is about
abbrev pub AreLeft : History → Change → Type 0
AreLeft later change = AllByRecursion (IsLeft later) (change_names change)

-- there is room for one more array after the entries just where there was before, as there is where as many arrays stand
abbrev pub SameRoom : Core → History → History → Type 0
SameRoom base later before = has_room (names_at base (later ++ before)).arrays ≡ has_room (names_at base before).arrays

-- what checking made such a change it makes the same change
abbrev pub FreshChecksStay : Type 0
FreshChecksStay = (base : Core) (later before : History) (text : List ℕ) (tree : Term) (change : Change) → AreLeft later change → SameRoom base later before
    → check_of tree text (names_at base before) ≡ Ok (AChange change) → check_of tree text (names_at base (later ++ before)) ≡ Ok (AChange change)

-- a typed one is typed
abbrev pub FreshChangesAreTyped : Type 0
FreshChangesAreTyped = (base : Core) (later before : History) (change : Change) → AreLeft later change → SameRoom base later before
    → IsTypedFor (names_at base before) change → IsTypedFor (names_at base (later ++ before)) change

-- it has the same fault, if any, and stores the same rows
abbrev pub FreshChangesMeanTheSame : Type 0
FreshChangesMeanTheSame = (db : Database) (later before : History) (change : Change) → AreLeft later change
    → (fault_of_change (at db (later ++ before)) change ≡ fault_of_change (at db before) change)
    × (new_rows (at db (later ++ before)) change ≡ new_rows (at db before) change)
