-- What windows may reach, and what can be aggregated.
use Rattle.std.specs.Prelude.{◌≤◌, ◌^◌, List, IsTrue}
use Rattle.std.specs.List.{AllByRecursion}
use Rattle.cell_values.specs.declared.datum.Row.{Row}
use Rattle.cell_values.specs.declared.schema.Attribute.{Attribute}
use Rattle.cell_values.specs.Cells.{IsCellOf}
use Rattle.array_geom.specs.Inner.Ranges.{AreLow}
use Rattle.logical_plan.specs.declared.parts.Aggregate.{Aggregate}
use Rattle.logical_plan.specs.declared.parts.Reach.{Reach}
use Rattle.logical_plan.specs.Typing.{are_aggregates_of}

-- a window that stays near its centre
abbrev pub AreShort : List Reach → Type 0
AreShort = AllByRecursion (λ r. (r.before ≤ 2 ^ 48) × (r.after ≤ 2 ^ 48))

-- coordinates from which windows stay in 64 bits
abbrev pub HaveLowPlaces : List Row → Type 0
HaveLowPlaces = AllByRecursion (λ row. AreLow row.at.items)

-- rows with a value of its kind for each attribute, and aggregates of these attributes
pub record CanAggregate (gs : List Aggregate) (rows : List Row) : Type 0 where
  pub attributes : List Attribute
  pub typed : IsTrue (are_aggregates_of attributes gs)
  pub cells : AllByRecursion (λ row. IsCellOf attributes row.cell) rows
