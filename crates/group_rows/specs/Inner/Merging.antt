-- When groups can be told as an array, and which array it is.
use Rattle.std.specs.Prelude.{◌≡◌, List, map, Option, Some, None, Ok, IsTrue, ⊤}
use Rattle.std.specs.List.{AllByRecursion}
use Rattle.cell_values.specs.declared.datum.Row.{Row}
use Rattle.cell_values.specs.declared.schema.Attribute.{Attribute}
use Rattle.cell_values.specs.declared.schema.Schema.{Schema}
use Rattle.cell_values.specs.Cells.{IsCellOf}
use Rattle.array_rows.specs.Boxes.{is_inside, bounds_of}
use Rattle.array_rows.specs.Rows.{Coordinate}
use Rattle.array_geom.specs.declared.chunk.ChunkedArray.{ChunkedArray}
use Rattle.array_geom.specs.Link.{Is}
use Rattle.logical_plan.specs.declared.parts.Aggregate.{Aggregate}
use Rattle.logical_plan.specs.PlanSchema.{aggregate_kind}
use Rattle.logical_plan.specs.Typing.{are_aggregates_of, kinds_of}
use Rattle.group_rows.specs.declared.rows.groups.Group.{Group}
use Rattle.group_rows.specs.Grouped.{AreGroupsOf}
use Rattle.group_rows.specs.Sets.{Sets}
use Rattle.group_rows.specs.Told.{AreRowsOfSets}

-- cells of these attributes, in a group that lies within the bounds of the target
abbrev pub IsSetFor : List Attribute → Schema → Coordinate → Option (List Row) → Type 0
IsSetFor attributes target c None = ⊤
IsSetFor attributes target c (Some rows) = IsTrue (is_inside (bounds_of target.dimensions) c) × AllByRecursion (λ row. IsCellOf attributes row.cell) rows

-- sets of cells for which the groups stand: the aggregates take such cells, and tell values of the kinds of the target's attributes
pub record CanBeTold (target : Schema) (groups : List Group) : Type 0 where
  pub gs : List Aggregate
  pub attributes : List Attribute
  pub sets : Sets
  pub groups_of : AreGroupsOf gs sets groups
  pub typed : IsTrue (are_aggregates_of attributes gs)
  pub cells : (c : Coordinate) → IsSetFor attributes target c (sets c)
  pub kinds : kinds_of target.attributes ≡ map (aggregate_kind attributes) gs

-- the array of the target that has the aggregates of these sets of cells
pub record HoldsSets (target : Schema) (gs : List Aggregate) (sets : Sets) (array : ChunkedArray) : Type 0 where
  pub rows : List Row
  pub told : AreRowsOfSets gs sets rows
  pub is : Is array (record { schema = target; rows = Ok rows })
