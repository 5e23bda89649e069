-- Aggregates that run along lines.
use Rattle.std.specs.Prelude.{◌≡◌, ℤ, List, [], ◌∷◌, ◌++◌}
use Rattle.std.specs.BTreeMap.{BTreeMap}
use Rattle.arrayvec.specs.ArrayVec.{ArrayVec}
use Rattle.cell_values.specs.declared.datum.Cell.{Cell}
use Rattle.cell_values.specs.declared.datum.Cell.TheVariants.{Full, Doubt}
use Rattle.cell_values.specs.declared.datum.Row.{Row}
use Rattle.array_rows.specs.Rows.{Coordinate, IsRising, placed}
use Rattle.logical_plan.specs.declared.parts.Aggregate.{Aggregate}
use Rattle.logical_plan.specs.Groups.{aggregates_of, group_at}
use Rattle.agg_states.specs.Inner.Summary.{Summary}
use Rattle.group_rows.specs.Sets.{sets_by}
use Rattle.group_rows.specs.Taken.{KeepsGroups}
use Rattle.order_exec.specs.Lines.{CanAggregate}

-- the aggregates of these rows in the place of a cell. A doubt stays one
abbrev pub running_cell : List Aggregate → List Row → Cell → Cell
running_cell gs rows (Full vs) = aggregates_of gs rows
running_cell gs rows (Doubt kind) = Doubt kind

-- each row with the aggregates of the rows on its line so far, the earlier ones and itself among them
abbrev pub running : (Coordinate → Coordinate) → List Aggregate → List Row → List Row → List Row
running line gs earlier [] = []
running line gs earlier (row ∷ rows) =
    placed row.at.items (running_cell gs (group_at line (line row.at.items) (earlier ++ row ∷ [])) row.cell) ∷ running line gs (earlier ++ row ∷ []) rows

-- a row behind the earlier ones on its line
abbrev pub IsNext : (Coordinate → Coordinate) → List Row → Row → Type 0
IsNext line earlier row = IsRising (group_at line (line row.at.items) earlier ++ row ∷ [])

-- a row's place on its line, and what it becomes
abbrev pub running_row : (Coordinate → Coordinate) → List Aggregate → List Row → Row → Row
running_row line gs earlier row = placed row.at.items (running_cell gs (group_at line (line row.at.items) (earlier ++ row ∷ [])) row.cell)

-- states that stood for the earlier rows stand for these and one more, and that is what it becomes
pub record TakesNext (line : Coordinate → Coordinate) (gs : List Aggregate) (earlier : List Row) (row : Row)
    (old : BTreeMap (ArrayVec ℤ) (List Summary)) (made : Row) (new : BTreeMap (ArrayVec ℤ) (List Summary)) : Type 0 where
  pub states : KeepsGroups gs (sets_by line earlier) old → IsNext line earlier row → KeepsGroups gs (sets_by line (earlier ++ row ∷ [])) new
  pub made_of : KeepsGroups gs (sets_by line earlier) old → IsNext line earlier row → CanAggregate gs (earlier ++ row ∷ []) → made ≡ running_row line gs earlier row
