-- The least fault of rows in any order.
use Rattle.std.specs.Prelude.{List, [], ◌∷◌, Option, Some, None}
use Rattle.std.specs.Option.{option_map}
use Rattle.std.specs.declared.cmp.Ordering.{Ordering}
use Rattle.std.specs.declared.cmp.Ordering.TheVariants.{Less}
use Rattle.cell_values.specs.declared.datum.Broken.{Broken}
use Rattle.cell_values.specs.declared.datum.Row.{Row}
use Rattle.array_rows.specs.Rows.{row_major}
use Rattle.logical_plan.specs.Faults.{fault_in}

-- a row's fault
abbrev pub fault_at : Row → Option Broken
fault_at row = option_map (λ kind. record { at = row.at; kind = kind }) (fault_in row.cell)

abbrev pub sooner_by : Ordering → Broken → Broken → Broken
sooner_by Less new old = new
sooner_by order new old = old

-- of two faults the one that comes first in row-major order
abbrev pub sooner : Option Broken → Option Broken → Option Broken
sooner None new = new
sooner (Some old) None = Some old
sooner (Some old) (Some new) = Some (sooner_by (row_major new.at.items old.at.items) new old)

-- the least of a fault and those of the rows
abbrev pub least_from : Option Broken → List Row → Option Broken
least_from least [] = least
least_from least (row ∷ rows) = least_from (sooner least (fault_at row)) rows
