-- Laws of rows.
use Rattle.std.specs.Prelude.{◌≡◌, Bool, if◌then◌else◌, List, Option, None, Some}
use Rattle.std.specs.Option.{option_or, option_and_then}
use Rattle.std.specs.Ordering.{is_eq}
use Rattle.cell_values.specs.declared.datum.Cell.{Cell}
use Rattle.cell_values.specs.declared.datum.Row.{Row}
use Rattle.array_rows.specs.Rows.{Coordinate, row_major, IsRising, cell_at, rows_where, put_row, in_order, put_all}
use Rattle.array_rows.specs.Cellwise.{cell_wise}

-- rows that have the same cell at each coordinate are the same rows
abbrev pub SameCellsAreSameRows : Type 0
SameCellsAreSameRows = (a b : List Row) → IsRising a → IsRising b → ((c : Coordinate) → cell_at a c ≡ cell_at b c) → a ≡ b

-- ---- rows that rise

abbrev pub CellWiseRises : Type 0
CellWiseRises = (change : Coordinate → Cell → Option Cell) (rows : List Row) → IsRising rows → IsRising (cell_wise change rows)

abbrev pub PartsRise : Type 0
PartsRise = (test : Coordinate → Bool) (rows : List Row) → IsRising rows → IsRising (rows_where test rows)

abbrev pub PutRowRises : Type 0
PutRowRises = (new : Row) (rows : List Row) → IsRising rows → IsRising (put_row new rows)

abbrev pub PutAllRises : Type 0
PutAllRises = (new rows : List Row) → IsRising rows → IsRising (put_all new rows)

abbrev pub InOrderRises : Type 0
InOrderRises = (rows : List Row) → IsRising (in_order rows)

-- ---- the cell at a coordinate

abbrev pub CellWiseCells : Type 0
CellWiseCells = (change : Coordinate → Cell → Option Cell) (rows : List Row) (c : Coordinate) → IsRising rows
    → cell_at (cell_wise change rows) c ≡ option_and_then (change c) (cell_at rows c)

abbrev pub PartCells : Type 0
PartCells = (test : Coordinate → Bool) (rows : List Row) (c : Coordinate) → cell_at (rows_where test rows) c ≡ (if test c then cell_at rows c else None)

abbrev pub PutRowCells : Type 0
PutRowCells = (new : Row) (rows : List Row) (c : Coordinate)
    → cell_at (put_row new rows) c ≡ (if is_eq (row_major new.at.items c) then Some new.cell else cell_at rows c)

abbrev pub PutAllCells : Type 0
PutAllCells = (new rows : List Row) (c : Coordinate) → cell_at (put_all new rows) c ≡ option_or (cell_at new c) (cell_at rows c)

abbrev pub InOrderCells : Type 0
InOrderCells = (rows : List Row) (c : Coordinate) → cell_at (in_order rows) c ≡ cell_at rows c
