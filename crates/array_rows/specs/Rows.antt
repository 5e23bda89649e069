-- An array's cells: the list of its rows, strictly rising in row-major order.
use Rattle.std.specs.Prelude.{◌≡◌, ℤ, Bool, if◌then◌else◌, List, [], ◌∷◌, filter, Option, Some, None, ⊤}
use Rattle.std.specs.List.{AllByRecursion}
use Rattle.std.specs.Ordering.{is_eq}
use Rattle.std.specs.declared.cmp.Ordering.{Ordering}
use Rattle.std.specs.declared.cmp.Ordering.TheVariants.{Less, Equal, Greater}
use Rattle.cell_values.specs.declared.datum.Cell.{Cell}
use Rattle.cell_values.specs.declared.datum.Row.{Row}
use Rattle.cell_values.specs.RowMajor.{row_order}

-- one number for each dimension
abbrev pub Coordinate : Type 0
Coordinate = List ℤ

-- row-major order: the first number decides, then the rest
abbrev pub row_major : Coordinate → Coordinate → Ordering
row_major = row_order

-- a cell at a coordinate
abbrev pub placed : Coordinate → Cell → Row
placed c cell = record { at = record { items = c }; cell = cell }

-- the coordinate comes before that of each row
abbrev pub IsBefore : Coordinate → List Row → Type 0
IsBefore c rows = AllByRecursion (λ row. row_major c row.at.items ≡ Less) rows

-- each row's coordinate comes before those of all later rows
abbrev pub IsRising : List Row → Type 0
IsRising [] = ⊤
IsRising (row ∷ rows) = IsBefore row.at.items rows × IsRising rows

-- the cell at a coordinate, or none where it is empty
abbrev pub cell_at : List Row → Coordinate → Option Cell
cell_at [] c = None
cell_at (row ∷ rows) c = if is_eq (row_major row.at.items c) then Some row.cell else cell_at rows c

-- the rows whose coordinate passes a test
abbrev pub rows_where : (Coordinate → Bool) → List Row → List Row
rows_where test rows = filter (λ row. test row.at.items) rows

-- a new row before, instead of or after the first row, by how it compares
abbrev pub put_by : Ordering → Row → Row → List Row → List Row → List Row
put_by Less new row rows after = new ∷ row ∷ rows
put_by Equal new row rows after = new ∷ rows
put_by Greater new row rows after = row ∷ after

-- the rows with this row in its place, instead of the one that stood at its coordinate
abbrev pub put_row : Row → List Row → List Row
put_row new [] = new ∷ []
put_row new (row ∷ rows) = put_by (row_major new.at.items row.at.items) new row rows (put_row new rows)

-- rows put in row-major order. Of several at one coordinate the first stays
abbrev pub in_order : List Row → List Row
in_order [] = []
in_order (row ∷ rows) = put_row row (in_order rows)

-- all rows of both, and those of the first where both have one
abbrev pub put_all : List Row → List Row → List Row
put_all [] rows = rows
put_all (row ∷ new) rows = put_row row (put_all new rows)
