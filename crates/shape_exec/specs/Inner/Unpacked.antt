-- Cells that are being numbered.
use Rattle.std.specs.Prelude.{◌≡◌, ℕ, List, ◌++◌, map, Option, Some, None, Result, Ok, Err}
use Rattle.cell_values.specs.declared.datum.Broken.{Broken}
use Rattle.cell_values.specs.declared.datum.Cell.{Cell}
use Rattle.cell_values.specs.declared.datum.Cell.TheVariants.{Full, Doubt}
use Rattle.cell_values.specs.declared.datum.Datum.TheVariants.{Int}
use Rattle.cell_values.specs.declared.datum.FaultKind.{FaultKind}
use Rattle.cell_values.specs.declared.datum.Row.{Row}
use Rattle.array_geom.specs.declared.grid.Grid.{Grid}
use Rattle.array_rows.specs.Rows.{Coordinate}
use Rattle.area_cells.specs.declared.finding.Found.{Found}
use Rattle.area_cells.specs.Found.{found_row}
use Rattle.logical_plan.specs.Faults.{if_whole}
use Rattle.logical_plan.specs.Ordered.{numbered}
use Rattle.logical_plan.specs.Shapes.{after_cell, unpacked_from}

-- rows with those that follow
abbrev pub followed : List Row → Result (List Row) Broken → Result (List Row) Broken
followed rows rest = if_whole (λ more. rows ++ more) rest

-- with whatever follows the rows become the same; or the row breaks the array
abbrev pub Unpacks : ℕ → Row → List Row → List Row → Option Broken → Type 0
Unpacks n row old new None = (rest : Result (List Row) Broken) → followed new rest ≡ followed old (after_cell n row row.cell rest)
Unpacks n row old new (Some broken) = (rest : Result (List Row) Broken) → Err broken ≡ followed old (after_cell n row row.cell rest)

-- ---- cells that were found

-- why a cell is in doubt
abbrev pub doubt_of : Cell → Option FaultKind
doubt_of (Full vs) = None
doubt_of (Doubt kind) = Some kind

-- a cell with a coordinate before its values
abbrev pub with_coordinate : Coordinate → Cell → Cell
with_coordinate at (Full vs) = Full (map Int at ++ vs)
with_coordinate at (Doubt kind) = Doubt kind

abbrev pub unpacked_cell : Row → Cell
unpacked_cell row = with_coordinate row.at.items row.cell

abbrev pub unpacked_found : Grid → Found → Cell
unpacked_found grid found = unpacked_cell (found_row grid found)

-- the first cell in doubt breaks the array; if there is none, the cells are numbered from this number on
abbrev pub IsFirstDoubt : ℕ → List Row → Option Broken → Type 0
IsFirstDoubt n rows None = unpacked_from n rows ≡ Ok (numbered n (map unpacked_cell rows))
IsFirstDoubt n rows (Some broken) = unpacked_from n rows ≡ Err broken
