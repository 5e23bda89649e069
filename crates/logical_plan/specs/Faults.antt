-- Arrays that may be broken, and the first fault of an array.
use Rattle.std.specs.Prelude.{List, [], ◌∷◌, Option, Some, None, Result, Ok, Err}
use Rattle.cell_values.specs.declared.datum.FaultKind.{FaultKind}
use Rattle.cell_values.specs.declared.datum.Cell.{Cell}
use Rattle.cell_values.specs.declared.datum.Cell.TheVariants.{Full, Doubt}
use Rattle.cell_values.specs.declared.datum.Row.{Row}
use Rattle.cell_values.specs.declared.datum.Broken.{Broken}
use Rattle.logical_plan.specs.Groups.{bad_kind, first_some}

-- a function of what is not broken
abbrev pub if_whole : {A B : Type 0} → (A → B) → Result A Broken → Result B Broken
if_whole f (Ok x) = Ok (f x)
if_whole f (Err broken) = Err broken

-- a function of what is not broken that may break in its turn
abbrev pub and_then : {A B : Type 0} → (A → Result B Broken) → Result A Broken → Result B Broken
and_then f (Ok x) = f x
and_then f (Err broken) = Err broken

-- a cell's doubt, or its first faulty value
abbrev pub fault_in : Cell → Option FaultKind
fault_in (Doubt kind) = Some kind
fault_in (Full vs) = first_some bad_kind vs

abbrev pub fault_here : Row → Option FaultKind → Option Broken → Option Broken
fault_here row None later = later
fault_here row (Some kind) later = Some (record { at = row.at; kind = kind })

-- the first row with a fault
abbrev pub first_fault : List Row → Option Broken
first_fault [] = None
first_fault (row ∷ rows) = fault_here row (fault_in row.cell) (first_fault rows)

-- of an array: where and why it is broken, else its first fault
abbrev pub fault_of : Result (List Row) Broken → Option Broken
fault_of (Ok rows) = first_fault rows
fault_of (Err broken) = Some broken
