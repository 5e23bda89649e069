-- The windows of the cells in a box.
use Rattle.std.specs.Prelude.{if◌then◌else◌, List, Option, None}
use Rattle.cell_values.specs.declared.datum.Cell.{Cell}
use Rattle.cell_values.specs.declared.datum.Row.{Row}
use Rattle.cell_values.specs.declared.schema.Bounds.{Bounds}
use Rattle.array_rows.specs.Boxes.{is_inside}
use Rattle.array_rows.specs.Rows.{Coordinate}
use Rattle.logical_plan.specs.declared.parts.Aggregate.{Aggregate}
use Rattle.logical_plan.specs.declared.parts.Reach.{Reach}
use Rattle.logical_plan.specs.Groups.{window_cell}

-- a cell of the box becomes that of its window, another one none
abbrev pub window_within : Bounds → List Reach → List Aggregate → List Row → Coordinate → Cell → Option Cell
window_within area reach gs rows c cell = if is_inside area c then window_cell reach gs rows c cell else None
