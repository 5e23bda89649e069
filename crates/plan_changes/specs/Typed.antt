-- When a change is typed for the stored arrays' names.
use Rattle.std.specs.Prelude.{◌≡◌, ◌⊎◌, nat_eq, Bool, true, false, ◌&&◌, List, [], ◌∷◌, Option, None, Some, IsTrue}
use Rattle.std.specs.List.{AllByRecursion, list_any}
use Rattle.expr_nulls.specs.Attribute.{Attribute}
use Rattle.expr_nulls.specs.Schema.{Schema}
use Rattle.expr_nulls.specs.Typing.{same_kind}
use Rattle.logical_plan.specs.declared.names.NameEntry.{NameEntry}
use Rattle.logical_plan.specs.declared.names.Names.{Names}
use Rattle.logical_plan.specs.declared.parts.Leaf.{Leaf}
use Rattle.logical_plan.specs.Leaves.{leaves}
use Rattle.logical_plan.specs.PlanSchema.{schema_of}
use Rattle.logical_plan.specs.Query.{Query}
use Rattle.logical_plan.specs.Typing.{IsTyped, same_bounds}
use Rattle.plan_changes.specs.declared.change.Change.{Change}
use Rattle.plan_changes.specs.declared.change.Change.TheVariants.{Create, Store, Insert, Remove, RemoveVersions}
use Rattle.plan_changes.specs.Changes.{entry_named}
use Rattle.plan_changes.specs.Allowed.{names_allow}

-- attributes of the same kinds in order
abbrev pub same_kinds : List Attribute → List Attribute → Bool
same_kinds [] [] = true
same_kinds (a ∷ left) (b ∷ right) = same_kind a.kind b.kind && same_kinds left right
same_kinds left right = false

-- schemas with the same kinds of attributes and the same bounds of dimensions
abbrev pub are_alike : Schema → Schema → Bool
are_alike a b = same_kinds a.attributes b.attributes && same_bounds a.dimensions b.dimensions

-- a leaf is a version of the array, or none where the array has no version
abbrev pub IsVersionOf : Leaf → Option NameEntry → Type 0
IsVersionOf leaf None = ⊥
IsVersionOf leaf (Some entry) = (leaf.schema ≡ entry.schema)
    × (IsTrue (list_any (λ v. nat_eq v leaf.version) entry.versions) ⊎ ((leaf.version ≡ 0) × (entry.versions ≡ [])))

-- a typed plan that reads versions that stand
pub record IsTypedOver (names : Names) (plan : Query) : Type 0 where
  pub typed : IsTyped plan
  pub reads : AllByRecursion (λ leaf. IsVersionOf leaf (entry_named names.arrays leaf.name)) (leaves plan)

-- a version is stored under the array's own schema, which is like that of the plan; a new array has the plan's schema
abbrev pub FitsInto : Option NameEntry → Schema → Query → Type 0
FitsInto None schema plan = schema ≡ schema_of plan
FitsInto (Some entry) schema plan = (schema ≡ entry.schema) × IsTrue (are_alike schema (schema_of plan))

-- the plan of a change
abbrev pub HasTypedPlan : Names → Change → Type 0
HasTypedPlan names (Create name schema) = Unit {0}
HasTypedPlan names (Store name schema plan) = IsTypedOver names plan × FitsInto (entry_named names.arrays name) schema plan
HasTypedPlan names (Insert name schema plan) = IsTypedOver names plan × FitsInto (entry_named names.arrays name) schema plan
HasTypedPlan names (Remove name) = Unit {0}
HasTypedPlan names (RemoveVersions name below) = Unit {0}

-- a change that the names allow, of a typed plan over them
abbrev pub IsTypedFor : Names → Change → Type 0
IsTypedFor names change = IsTrue (names_allow names change) × HasTypedPlan names change
