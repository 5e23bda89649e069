-- Values and faults of groups, by the coordinates of the groups.
use Rattle.std.specs.Prelude.{◌≡◌, ℕ, ◌+◌, ◌++◌, ℤ, pos, Bool, false, if◌then◌else◌, List, [], ◌∷◌, Option, Some, None, ⊤}
use Rattle.std.specs.BTreeMap as tree
use Rattle.std.specs.BTreeMap.{BTreeMap}
use Rattle.std.specs.List.{AllByRecursion}
use Rattle.std.specs.Option.{option_or}
use Rattle.std.specs.Ordering.{is_eq, is_lt}
use Rattle.arrayvec.specs.ArrayVec.{ArrayVec}
use Rattle.cell_values.specs.declared.datum.Datum.{Datum}
use Rattle.cell_values.specs.declared.datum.Datum.TheVariants.{Int, Null}
use Rattle.cell_values.specs.declared.datum.FaultKind.{FaultKind}
use Rattle.cell_values.specs.declared.datum.Row.{Row}
use Rattle.cell_values.specs.Nulls.{is_null}
use Rattle.array_rows.specs.Rows.{Coordinate, row_major}
use Rattle.logical_plan.specs.declared.parts.AggFunction.TheVariants.{Count}
use Rattle.logical_plan.specs.BoxOps.{numbers_at}
use Rattle.logical_plan.specs.Groups.{attribute_of, cells_of, datum_cmp, fault_for, first_some, group_at, unless, values_of}
use Rattle.logical_plan.specs.Ordered.{below, sorted_by}
use Rattle.group_rows.specs.Taken.{by_coordinate}

-- no value comes before an earlier one
abbrev pub AreInOrder : List Datum → Type 0
AreInOrder [] = ⊤
AreInOrder (v ∷ vs) = AllByRecursion (λ w. is_lt (datum_cmp w v) ≡ false) vs × AreInOrder vs

abbrev pub values_or_none : Option (List Datum) → List Datum
values_or_none None = []
values_or_none (Some vs) = vs

abbrev pub is_of_group : List ℕ → Row → Coordinate → Bool
is_of_group dims row c = is_eq (row_major (numbers_at dims row.at.items) c)

-- a value that is not null
abbrev pub own_value : ℕ → Row → List Datum
own_value x row = if is_null (attribute_of x row.cell) then [] else attribute_of x row.cell ∷ []

abbrev pub TakesValue : ℕ → List ℕ → Row → BTreeMap (ArrayVec ℤ) (List Datum) → BTreeMap (ArrayVec ℤ) (List Datum) → Type 0
TakesValue x dims row old new = (q : ArrayVec ℤ) → values_or_none (tree.get by_coordinate new q)
    ≡ (if is_of_group dims row q.items then values_or_none (tree.get by_coordinate old q) ++ own_value x row else values_or_none (tree.get by_coordinate old q))

-- of each group the values of its rows that are not null, in the order of the rows
abbrev pub HoldsValues : ℕ → List ℕ → List Row → BTreeMap (ArrayVec ℤ) (List Datum) → Type 0
HoldsValues x dims rows groups = (q : ArrayVec ℤ) → values_or_none (tree.get by_coordinate groups q) ≡ values_of x (cells_of (group_at (numbers_at dims) q.items rows))

abbrev pub TakesFault : ℕ → List ℕ → Row → BTreeMap (ArrayVec ℤ) FaultKind → BTreeMap (ArrayVec ℤ) FaultKind → Type 0
TakesFault x dims row old new = (q : ArrayVec ℤ) → tree.get by_coordinate new q
    ≡ (if is_of_group dims row q.items then option_or (tree.get by_coordinate old q) (fault_for Count x row.cell) else tree.get by_coordinate old q)

-- of each group the first fault of its rows
abbrev pub HoldsFaults : ℕ → List ℕ → List Row → BTreeMap (ArrayVec ℤ) FaultKind → Type 0
HoldsFaults x dims rows groups = (q : ArrayVec ℤ) → tree.get by_coordinate groups q ≡ first_some (fault_for Count x) (cells_of (group_at (numbers_at dims) q.items rows))

-- each group's values are in order
abbrev pub AreOrdered : BTreeMap (ArrayVec ℤ) (List Datum) → Type 0
AreOrdered values = (q : ArrayVec ℤ) → AreInOrder (values_or_none (tree.get by_coordinate values q))

-- the rank of a value among a group's values
abbrev pub rank_value : Option FaultKind → Datum → List Datum → Datum
rank_value fault v vs = unless fault (if is_null v then Null else Int (pos (1 + below v vs)))

-- of each group of the rows its first fault, and as many values below a value as there are
pub record DescribesGroups (x : ℕ) (dims : List ℕ) (rows : List Row) (values : BTreeMap (ArrayVec ℤ) (List Datum)) (faults : BTreeMap (ArrayVec ℤ) FaultKind) : Type 0 where
  pub first : HoldsFaults x dims rows faults
  pub counts : (q : ArrayVec ℤ) (v : Datum) → below v (values_or_none (tree.get by_coordinate values q)) ≡ below v (values_of x (cells_of (group_at (numbers_at dims) q.items rows)))

abbrev pub value_before : Datum → Datum → Bool
value_before v w = is_lt (datum_cmp v w)

-- each group's values in their order
abbrev pub SortsValues : BTreeMap (ArrayVec ℤ) (List Datum) → BTreeMap (ArrayVec ℤ) (List Datum) → Type 0
SortsValues groups sorted = (q : ArrayVec ℤ) → values_or_none (tree.get by_coordinate sorted q) ≡ sorted_by value_before (values_or_none (tree.get by_coordinate groups q))
