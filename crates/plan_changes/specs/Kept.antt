-- Databases stay databases.
use Rattle.std.specs.Prelude.{◌≡◌, None, IfOk}
use Rattle.logical_plan.specs.Arrays.{AreRowsOf}
use Rattle.logical_plan.specs.Meaning.{meaning}
use Rattle.logical_plan.specs.PlanSchema.{schema_of}
use Rattle.logical_plan.specs.Query.{Query}
use Rattle.plan_changes.specs.declared.change.Change.{Change}
use Rattle.plan_changes.specs.declared.change.Change.TheVariants.{Create, Store, Insert, Remove, RemoveVersions}
use Rattle.plan_changes.specs.Databases.{Database, rows_of, names_of, fault_of_change, after}
use Rattle.plan_changes.specs.Stored.{IsDatabase, HasItsNames}
use Rattle.plan_changes.specs.Typed.{IsTypedFor}

-- over a database a plan means an array of its schema, where it is not broken
abbrev pub MeansArray : Database → Query → Type 0
MeansArray db plan = IfOk (meaning (rows_of db) plan).rows (AreRowsOf (schema_of plan))

-- so does the plan of a change over the database before it
abbrev pub StoresArray : Database → Change → Type 0
StoresArray db (Create name schema) = Unit {0}
StoresArray db (Store name schema plan) = MeansArray db plan
StoresArray db (Insert name schema plan) = MeansArray db plan
StoresArray db (Remove name) = Unit {0}
StoresArray db (RemoveVersions name below) = Unit {0}

-- a typed change without fault leaves a database
abbrev pub ChangesKeepDatabases : Type 0
ChangesKeepDatabases = (db : Database) (change : Change) → IsDatabase db → HasItsNames change → IsTypedFor (names_of db) change
    → StoresArray db change → fault_of_change db change ≡ None → IsDatabase (after db change)
