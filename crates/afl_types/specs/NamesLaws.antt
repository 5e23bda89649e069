-- What checking reads of the names of the stored arrays.
use Rattle.std.specs.Prelude.{◌≡◌, ℕ, List, [], ◌∷◌, ◌++◌, map, Ok}
use Rattle.std.specs.List.{AllByRecursion}
use Rattle.afl_trees.specs.Term.{Term}
use Rattle.logical_plan.specs.Leaves.{leaves}
use Rattle.logical_plan.specs.Query.{Query}
use Rattle.logical_plan.specs.declared.names.Names.{Names}
use Rattle.plan_changes.specs.Allowed.{has_room}
use Rattle.plan_changes.specs.Changes.{entry_named}
use Rattle.plan_changes.specs.declared.change.Change.{Change}
use Rattle.plan_changes.specs.declared.change.Change.TheVariants.{Create, Store, Insert, Remove, RemoveVersions}
use Rattle.afl_types.specs.Checking.{check_of}
use Rattle.afl_types.specs.declared.types.statements.checking.Typed.TheVariants.{Change as AChange}
use Rattle.afl_types.specs.Said.{said_names}

-- two lists of stored arrays have the same entry, or none, for each of some names, and both have room for one more or neither, as
-- two lists of one length do
pub record Agree (a b : Names) (names : List (List ℕ)) : Type 0 where
  pub room : has_room a.arrays ≡ has_room b.arrays
  pub entries : AllByRecursion (λ name. entry_named a.arrays name ≡ entry_named b.arrays name) names

-- over such a tree that says no other names is one statement, or breaks one rule
abbrev pub CheckingReadsNames : Type 0
CheckingReadsNames = (a b : Names) (text : List ℕ) (tree : Term) → Agree a b (said_names tree) → check_of tree text a ≡ check_of tree text b

-- the names of the versions that a plan reads, from left to right
abbrev pub leaf_names : Query → List (List ℕ)
leaf_names plan = map (λ leaf. leaf.name) (leaves plan)

-- those that a change's plan reads, and the one that the change is about
abbrev pub change_names : Change → List (List ℕ)
change_names (Create name schema) = name ∷ []
change_names (Store name schema plan) = leaf_names plan ++ name ∷ []
change_names (Insert name schema plan) = leaf_names plan ++ name ∷ []
change_names (Remove name) = name ∷ []
change_names (RemoveVersions name below) = name ∷ []

-- a tree that is a change says just these
abbrev pub CheckedChangesSayTheirNames : Type 0
CheckedChangesSayTheirNames = (names : Names) (text : List ℕ) (tree : Term) (change : Change)
    → check_of tree text names ≡ Ok (AChange change) → said_names tree ≡ change_names change

-- so over names that agree on them it is the same change
abbrev pub CheckedChangesStay : Type 0
CheckedChangesStay = (a b : Names) (text : List ℕ) (tree : Term) (change : Change) → Agree a b (change_names change)
    → check_of tree text a ≡ Ok (AChange change) → check_of tree text b ≡ Ok (AChange change)
