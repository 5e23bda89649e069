-- Aggregates of lists of cells, and the operators that form such lists.
use Rattle.std.specs.Prelude.{ℕ, ◌+◌, ◌/◌, ℤ, pos, ◌+ℤ◌, ◌-ℤ◌, unsigned_abs, not, if◌then◌else◌}
use Rattle.std.specs.Prelude.{List, [], ◌∷◌, map, filter, length, slice_index_or, Option, Some, None}
use Rattle.std.specs.Option.{option_or}
use Rattle.std.specs.Ordering.{is_eq, is_lt, nat_cmp, int_cmp, bool_cmp, on, then_cmp}
use Rattle.std.specs.declared.cmp.Ordering.{Ordering}
use Rattle.std.specs.Cmp.Lexicographic.{slice_cmp}
use Rattle.cell_values.specs.declared.datum.FaultKind.{FaultKind}
use Rattle.cell_values.specs.declared.datum.FaultKind.TheVariants.{Overflow, DivideByZero, OutOfBounds, Collision, NullInNotNull}
use Rattle.cell_values.specs.declared.datum.Datum.{Datum}
use Rattle.cell_values.specs.declared.datum.Datum.TheVariants.{Null, Missing, Int, Text, Truth, Bad}
use Rattle.cell_values.specs.declared.datum.Cell.{Cell}
use Rattle.cell_values.specs.declared.datum.Cell.TheVariants.{Full, Doubt}
use Rattle.cell_values.specs.declared.datum.Row.{Row}
use Rattle.cell_values.specs.declared.schema.Bounds.{Bounds}
use Rattle.cell_values.specs.Nulls.{is_null}
use Rattle.cell_values.specs.Table.{exact}
use Rattle.array_rows.specs.Rows.{Coordinate, row_major, placed, rows_where, in_order}
use Rattle.array_rows.specs.Boxes.{by_pairs, within, corners}
use Rattle.array_rows.specs.Cellwise.{cell_wise}
use Rattle.logical_plan.specs.declared.parts.AggFunction.{AggFunction}
use Rattle.logical_plan.specs.declared.parts.AggFunction.TheVariants.{Sum, Count, CountAll, Min, Max}
use Rattle.logical_plan.specs.declared.parts.Aggregate.{Aggregate}
use Rattle.logical_plan.specs.declared.parts.Reach.{Reach}
use Rattle.logical_plan.specs.BoxOps.{numbers_at}

-- ---- one aggregate of a list of cells in row-major order

-- the cell's value of an attribute, null where the cell is in doubt
abbrev pub attribute_of : ℕ → Cell → Datum
attribute_of x (Full vs) = slice_index_or vs x Null
attribute_of x (Doubt kind) = Null

abbrev pub bad_kind : Datum → Option FaultKind
bad_kind (Bad kind) = Some kind
bad_kind v = None

-- the fault of a cell for an aggregate: its doubt, or the fault of the attribute. `count(*)` looks at doubts alone
abbrev pub fault_for : AggFunction → ℕ → Cell → Option FaultKind
fault_for f x (Doubt kind) = Some kind
fault_for CountAll x (Full vs) = None
fault_for f x (Full vs) = bad_kind (slice_index_or vs x Null)

-- what the first element that has one has
abbrev pub first_some : {A B : Type 0} → (A → Option B) → List A → Option B
first_some f [] = None
first_some f (x ∷ xs) = option_or (f x) (first_some f xs)

-- the place of what a value is among nulls, numbers, texts, truths and faults
abbrev pub sort_place : Datum → ℕ
sort_place (Int n) = 1
sort_place (Text s) = 2
sort_place (Truth b) = 3
sort_place (Bad kind) = 4
sort_place v = 0

abbrev pub kind_place : FaultKind → ℕ
kind_place Overflow = 0
kind_place DivideByZero = 1
kind_place OutOfBounds = 2
kind_place Collision = 3
kind_place NullInNotNull = 4

-- the place of a null among nulls, first the one without a reason, and of a fault among faults
abbrev pub code_place : Datum → ℕ
code_place (Missing code) = code + 1
code_place (Bad kind) = kind_place kind
code_place v = 0

-- the order of all values: nulls by their codes, then numbers by size, texts by their bytes, false before true, and faults by kind
abbrev pub datum_cmp : Datum → Datum → Ordering
datum_cmp (Int x) (Int y) = int_cmp x y
datum_cmp (Text s) (Text t) = slice_cmp nat_cmp s t
datum_cmp (Truth a) (Truth b) = bool_cmp a b
datum_cmp v w = then_cmp (on sort_place nat_cmp) (on code_place nat_cmp) v w

abbrev pub number_of : Datum → ℤ
number_of (Int n) = n
number_of v = pos 0

-- the lesser and the greater of two values; null is neither
abbrev pub lesser : Datum → Datum → Datum
lesser v Null = v
lesser v w = if is_lt (datum_cmp w v) then w else v

abbrev pub greater : Datum → Datum → Datum
greater v Null = v
greater v w = if is_lt (datum_cmp v w) then w else v

abbrev pub unless : Option FaultKind → Datum → Datum
unless None v = v
unless (Some kind) v = Bad kind

-- the attribute's values that are not null
abbrev pub values_of : ℕ → List Cell → List Datum
values_of x cells = filter (λ v. not (is_null v)) (map (attribute_of x) cells)

abbrev pub sum_of : List Datum → ℤ
sum_of [] = pos 0
sum_of (v ∷ vs) = number_of v +ℤ sum_of vs

abbrev pub least : List Datum → Datum
least [] = Null
least (v ∷ vs) = lesser v (least vs)

abbrev pub greatest : List Datum → Datum
greatest [] = Null
greatest (v ∷ vs) = greater v (greatest vs)

-- the exact total where it is in range, else a fault; null of no value
abbrev pub sum_or_null : List Datum → Datum
sum_or_null [] = Null
sum_or_null (v ∷ vs) = exact (sum_of (v ∷ vs))

abbrev pub result_of : AggFunction → List Datum → ℕ → Datum
result_of Sum vs n = sum_or_null vs
result_of Count vs n = Int (pos (length vs))
result_of CountAll vs n = Int (pos n)
result_of Min vs n = least vs
result_of Max vs n = greatest vs

-- the first fault, or the total, number, least or greatest of the values that are not null
abbrev pub aggregate_of : Aggregate → List Cell → Datum
aggregate_of g cells =
    unless (first_some (fault_for g.function g.attribute) cells) (result_of g.function (values_of g.attribute cells) (length cells))

abbrev pub cells_of : List Row → List Cell
cells_of = map (λ row. row.cell)

abbrev pub aggregates_of : List Aggregate → List Row → Cell
aggregates_of gs rows = Full (map (λ g. aggregate_of g (cells_of rows)) gs)

-- ---- groups

-- the rows whose group is this one, in row-major order
abbrev pub group_at : (Coordinate → Coordinate) → Coordinate → List Row → List Row
group_at group c = rows_where (λ at. is_eq (row_major (group at) c))

-- for each group that has a row, the aggregates of its rows
abbrev pub grouped : (Coordinate → Coordinate) → List Aggregate → List Row → List Row
grouped group gs rows =
    in_order (map (λ row. placed (group row.at.items) (aggregates_of gs (group_at group (group row.at.items) rows))) rows)

-- without groups: all rows into one cell at 0
abbrev pub aggregate_all : List Aggregate → List Row → List Row
aggregate_all gs rows = placed (pos 0 ∷ []) (aggregates_of gs rows) ∷ []

-- by the named dimensions, in the order in which they are named
abbrev pub aggregate_rows : List ℕ → List Aggregate → List Row → List Row
aggregate_rows [] gs = aggregate_all gs
aggregate_rows (d ∷ places) gs = grouped (numbers_at (d ∷ places)) gs

-- the block of a number along a dimension: the low bound, and one more for each block before it
abbrev pub block : ℤ → ℕ → ℤ → ℤ
block lo size x = lo +ℤ pos (unsigned_abs (x -ℤ lo) / size)

-- by blocks
abbrev pub regrid_rows : Coordinate → List ℕ → List Aggregate → List Row → List Row
regrid_rows lo sizes = grouped (λ c. by_pairs (λ b x. b x) (by_pairs block lo sizes) c)

-- ---- windows

abbrev pub window : List Reach → Coordinate → Bounds
window reach c = corners (by_pairs (λ x r. x -ℤ pos r.before) c reach) (by_pairs (λ x r. x +ℤ pos r.after) c reach)

-- around each full cell the aggregates of the rows in its window; a doubt stays one
abbrev pub window_cell : List Reach → List Aggregate → List Row → Coordinate → Cell → Option Cell
window_cell reach gs rows c (Full vs) = Some (aggregates_of gs (within (window reach c) rows))
window_cell reach gs rows c (Doubt kind) = Some (Doubt kind)

abbrev pub window_rows : List Reach → List Aggregate → List Row → List Row
window_rows reach gs rows = cell_wise (window_cell reach gs rows) rows
