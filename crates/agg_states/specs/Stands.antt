-- When a state stands for a set of cells.
use Rattle.std.specs.Prelude.{◌≡◌, List, length, Option, None}
use Rattle.std.specs.List.{AllByRecursion}
use Rattle.std.specs.Option.{option_map}
use Rattle.cell_values.specs.declared.datum.Broken.{Broken}
use Rattle.cell_values.specs.declared.datum.Datum.{Datum}
use Rattle.cell_values.specs.declared.datum.Row.{Row}
use Rattle.array_rows.specs.Rows.{IsRising, cell_at}
use Rattle.logical_plan.specs.declared.parts.Aggregate.{Aggregate}
use Rattle.logical_plan.specs.Groups.{fault_for, first_some, values_of, sum_of, cells_of}
use Rattle.agg_states.specs.Best.{IsBestFor}
use Rattle.agg_states.specs.Inner.Summary.{Summary}

-- the fault of a row for an aggregate, with its coordinate
abbrev pub fault_at : Aggregate → Row → Option Broken
fault_at g row = option_map (λ kind. record { at = row.at; kind = kind }) (fault_for g.function g.attribute row.cell)

-- the values of the aggregate's attribute that are not null
abbrev pub values_in : Aggregate → List Row → List Datum
values_in g rows = values_of g.attribute (cells_of rows)

-- the state of an aggregate for the cells of these rows
pub record StandsFor (g : Aggregate) (rows : List Row) (state : Summary) : Type 0 where
  pub function : state.function ≡ g.function
  pub rising : IsRising rows
  pub fault : state.fault ≡ first_some (fault_at g) rows
  pub cells : state.cells ≡ length rows
  pub values : state.values ≡ length (values_in g rows)
  pub total : state.total ≡ sum_of (values_in g rows)
  pub best : IsBestFor g.function state.best (values_in g rows)

-- no coordinate has a cell in both
abbrev pub AreApart : List Row → List Row → Type 0
AreApart a b = AllByRecursion (λ row. cell_at b row.at.items ≡ None) a
