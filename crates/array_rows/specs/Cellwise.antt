-- Changes of an array cell by cell.
use Rattle.std.specs.Prelude.{List, [], ◌∷◌, Option, Some, None}
use Rattle.cell_values.specs.declared.datum.Cell.{Cell}
use Rattle.cell_values.specs.declared.datum.Row.{Row}
use Rattle.array_rows.specs.Rows.{Coordinate, placed}

-- a cell at a coordinate, if there is one, before further rows
abbrev pub put_first : Coordinate → Option Cell → List Row → List Row
put_first c None rows = rows
put_first c (Some cell) rows = placed c cell ∷ rows

-- at each coordinate what `change` makes of the cell there
abbrev pub cell_wise : (Coordinate → Cell → Option Cell) → List Row → List Row
cell_wise change [] = []
cell_wise change (row ∷ rows) = put_first row.at.items (change row.at.items row.cell) (cell_wise change rows)
