-- Rows of what groups tell.
use Rattle.std.specs.Prelude.{◌≡◌, List, IsTrue}
use Rattle.std.specs.List.{AllByRecursion, AllZip}
use Rattle.std.specs.Option.{option_map}
use Rattle.cell_values.specs.declared.datum.Cell.{Cell}
use Rattle.cell_values.specs.declared.datum.Cell.TheVariants.{Full, Doubt}
use Rattle.cell_values.specs.declared.datum.Datum.{Datum}
use Rattle.cell_values.specs.declared.datum.Row.{Row}
use Rattle.cell_values.specs.declared.schema.Attribute.{Attribute}
use Rattle.cell_values.specs.Cells.{IsCellOf}
use Rattle.array_rows.specs.Rows.{Coordinate, IsRising, cell_at}
use Rattle.logical_plan.specs.declared.parts.Aggregate.{Aggregate}
use Rattle.logical_plan.specs.Groups.{cells_of, aggregate_of, aggregates_of}
use Rattle.logical_plan.specs.Typing.{is_aggregate_of}
use Rattle.agg_states.specs.Stands.{StandsFor}
use Rattle.agg_states.specs.Inner.Summary.{Summary}
use Rattle.group_rows.specs.declared.rows.groups.Group.{Group}
use Rattle.group_rows.specs.Sets.{Sets}

-- the aggregate of the cells for which a state stands
abbrev pub IsTold : Summary → Datum → Type 0
IsTold state value = (g : Aggregate) (attributes : List Attribute) (rows : List Row) → StandsFor g rows state → IsTrue (is_aggregate_of attributes g)
    → AllByRecursion (λ row. IsCellOf attributes row.cell) rows → value ≡ aggregate_of g (cells_of rows)

abbrev pub AreTold : List Summary → Cell → Type 0
AreTold states (Full values) = AllZip IsTold states values
AreTold states (Doubt kind) = ⊥

-- a row with what the states of a group tell
pub record IsRowOf (group : Group) (row : Row) : Type 0 where
  pub at : row.at ≡ group.at
  pub cell : AreTold group.states row.cell

-- the rows with the aggregates of these sets of cells
pub record AreRowsOfSets (gs : List Aggregate) (sets : Sets) (rows : List Row) : Type 0 where
  pub rising : IsRising rows
  pub each : (c : Coordinate) → cell_at rows c ≡ option_map (aggregates_of gs) (sets c)
