-- The first fault of a cell.
use Rattle.std.specs.Prelude.{List, [], ◌∷◌, Option, Some, None}
use Rattle.std.specs.Option.{option_or}
use Rattle.cell_values.specs.declared.datum.Cell.{Cell}
use Rattle.cell_values.specs.declared.datum.Cell.TheVariants.{Full, Doubt}
use Rattle.cell_values.specs.declared.datum.Datum.{Datum}
use Rattle.cell_values.specs.declared.datum.Datum.TheVariants.{Bad}
use Rattle.cell_values.specs.declared.datum.FaultKind.{FaultKind}

-- the kind of a faulty value
abbrev pub fault_of_value : Datum → Option FaultKind
fault_of_value (Bad kind) = Some kind
fault_of_value v = None

-- that of the first value that is faulty
abbrev pub fault_of_values : List Datum → Option FaultKind
fault_of_values [] = None
fault_of_values (v ∷ vs) = option_or (fault_of_value v) (fault_of_values vs)

-- the doubt of a cell, or its first fault
abbrev pub fault_of_cell : Cell → Option FaultKind
fault_of_cell (Doubt kind) = Some kind
fault_of_cell (Full vs) = fault_of_values vs
