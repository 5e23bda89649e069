-- Which changes the stored arrays' names allow, whatever the plans are.
use Rattle.std.specs.Prelude.{ℕ, Bool, not, ◌&&◌, ◌||◌, List, length, nat_lt, nat_le}
use Rattle.std.specs.List.{list_all}
use Rattle.expr_nulls.specs.Schemas.{is_valid}
use Rattle.logical_plan.specs.declared.names.NameEntry.{NameEntry}
use Rattle.logical_plan.specs.declared.names.Names.{Names}
use Rattle.plan_changes.specs.declared.change.Change.{Change}
use Rattle.plan_changes.specs.declared.change.Change.TheVariants.{Create, Store, Insert, Remove, RemoveVersions}
use Rattle.plan_changes.specs.Changes.{is_named, has_array, newest_of}

-- at most 1,024 arrays stand
abbrev pub has_room : List NameEntry → Bool
has_room entries = nat_lt (length entries) 1024

-- an array's next number is below 65,536, if it has the name
abbrev pub has_number : List ℕ → NameEntry → Bool
has_number name entry = not (is_named name entry) || nat_lt entry.next 65536

-- an array is made where none has its name. A version is stored in an array that has a number for it, or in a new one, and
-- inserted in one that stands. What stands is removed, or its versions below a number from 1 to the newest
abbrev pub names_allow : Names → Change → Bool
names_allow names (Create name schema) = is_valid schema && (has_room names.arrays && not (has_array names.arrays name))
names_allow names (Store name schema plan) = is_valid schema
    && ((has_array names.arrays name || has_room names.arrays) && list_all (has_number name) names.arrays)
names_allow names (Insert name schema plan) = has_array names.arrays name && list_all (has_number name) names.arrays
names_allow names (Remove name) = has_array names.arrays name
names_allow names (RemoveVersions name below) = has_array names.arrays name && (nat_le 1 below && nat_le below (newest_of names.arrays name))
