-- Statements that are checked over stored names.
use Rattle.std.proofs.Common.{◌≡◌, ℕ, List, Ok, IsTrue}
use Rattle.afl_trees.specs.Term.{Term}
use Rattle.logical_plan.specs.declared.names.Names.{Names}
use Rattle.check_exprs.specs.Laws.{leaves_fit}
use Rattle.plan_changes.specs.Stored.{AreStored}
use Rattle.afl_types.specs.Checking.{check_of}
use Rattle.afl_types.specs.declared.types.statements.checking.Typed.{Typed}
use Rattle.afl_types.specs.declared.types.statements.checking.Typed.TheVariants.{Query, Change, Versions, Show, ListArrays}
use Rattle.afl_types.proofs.TypedChanges.{changes_typed}
use Rattle.test_quiet.specs.Statements.{IsStatement}

pub checked_is : (names : Names) (text : List ℕ) (tree : Term) (typed : Typed) → AreStored names → IsTrue (leaves_fit tree) → check_of tree text names ≡ Ok typed → IsStatement names typed
checked_is names text tree (Query plan) stored fits e = tt
checked_is names text tree (Change change) stored fits e = changes_typed names text tree change stored fits e
checked_is names text tree (Versions name) stored fits e = tt
checked_is names text tree (Show name) stored fits e = tt
checked_is names text tree ListArrays stored fits e = tt
