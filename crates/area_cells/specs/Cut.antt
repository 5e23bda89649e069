-- A cell in a box stays, any other one is left out.
use Rattle.std.specs.Prelude.{if◌then◌else◌, Option, Some, None}
use Rattle.cell_values.specs.declared.datum.Cell.{Cell}
use Rattle.cell_values.specs.declared.schema.Bounds.{Bounds}
use Rattle.array_rows.specs.Boxes.{is_inside}
use Rattle.array_rows.specs.Rows.{Coordinate}

abbrev pub cell_inside : Bounds → Coordinate → Cell → Option Cell
cell_inside area c cell = if is_inside area c then Some cell else None
