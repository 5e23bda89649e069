-- The cells of a chunk's core, whose values stand in columns.
use Rattle.std.specs.Prelude.{◌≡◌, ℕ, ℤ, Bool, List, map}
use Rattle.cell_values.specs.declared.datum.Cell.{Cell}
use Rattle.cell_values.specs.declared.datum.Datum.TheVariants.{Int}
use Rattle.cell_values.specs.declared.datum.Row.{Row}
use Rattle.cell_values.specs.declared.schema.Bounds.{Bounds}
use Rattle.array_rows.specs.Boxes.{is_inside, within}
use Rattle.array_rows.specs.Rows.{IsRising}
use Rattle.array_rows.specs.Inner.CellsIn.{value_in}
use Rattle.logical_plan.specs.declared.parts.Aggregate.{Aggregate}
use Rattle.logical_plan.specs.Groups.{cells_of}
use Rattle.agg_states.specs.Stands.{StandsFor}
use Rattle.agg_states.specs.Inner.Summary.{Summary}
use Rattle.group_rows.specs.Grouped.{AreStatesOf}

-- the values in a place of these cells are numbers
abbrev pub HaveNumbers : ℕ → List ℤ → List Cell → Type 0
HaveNumbers place numbers cells = map (value_in place) cells ≡ map Int numbers

-- whether each row stands in an area
abbrev pub are_inside : Bounds → List Row → List Bool
are_inside area rows = map (λ row. is_inside area row.at.items) rows

-- a state of those of these cells that stand in an area, wherever they stand
abbrev pub StandsForInside : Aggregate → List Bool → List Cell → Summary → Type 0
StandsForInside g inside cells state = (area : Bounds) (rows : List Row) → IsRising rows → cells_of rows ≡ cells → are_inside area rows ≡ inside → StandsFor g (within area rows) state

abbrev pub AreStatesInside : List Aggregate → List Bool → List Cell → List Summary → Type 0
AreStatesInside gs inside cells states = (area : Bounds) (rows : List Row) → IsRising rows → cells_of rows ≡ cells → are_inside area rows ≡ inside → AreStatesOf gs (within area rows) states
