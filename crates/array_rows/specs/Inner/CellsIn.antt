-- The cells that are kept as rows or one by one.
use Rattle.std.specs.Prelude.{ℕ, List, map, slice_index_or}
use Rattle.cell_values.specs.declared.datum.Datum.{Datum}
use Rattle.cell_values.specs.declared.datum.Datum.TheVariants.{Null, Bad}
use Rattle.cell_values.specs.declared.datum.Cell.{Cell}
use Rattle.cell_values.specs.declared.datum.Cell.TheVariants.{Full, Doubt}
use Rattle.array_rows.specs.declared.columns.forms.Form.{Form}
use Rattle.array_rows.specs.declared.columns.forms.Form.TheVariants.{Even, Mixed}

abbrev pub cells_in : Form → List Cell
cells_in (Even rows) = map Full rows
cells_in (Mixed cells) = cells

-- the value in a place of a cell; where the cell is in doubt, the fault
abbrev pub value_in : ℕ → Cell → Datum
value_in place (Full values) = slice_index_or values place Null
value_in place (Doubt kind) = Bad kind
