-- What is known of a change of a cell.
use Rattle.std.specs.Prelude.{◌≡◌, Option, Some, None, ⊤}
use Rattle.cell_values.specs.declared.datum.Cell.{Cell}
use Rattle.array_rows.specs.Rows.{Coordinate}
use Rattle.array_parts.specs.declared.chunks.change.Quick.{Quick}
use Rattle.array_parts.specs.declared.chunks.change.Quick.TheVariants.{Stays, Goes, Unknown}

abbrev pub IsQuickly : Quick → Cell → Option Cell → Type 0
IsQuickly Stays cell made = made ≡ Some cell
IsQuickly Goes cell made = made ≡ None
IsQuickly Unknown cell made = ⊤

-- the cell stays as it is, wherever it stands
abbrev pub StaysAnywhere : (Coordinate → Cell → Option Cell) → Cell → Type 0
StaysAnywhere change cell = (at : Coordinate) → change at cell ≡ Some cell
