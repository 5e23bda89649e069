-- What a cell changes in a state, what two states have together, and what a state tells.
use Rattle.std.specs.Prelude.{ℕ, zero, ℤ, pos, Bool, true, false, not, ◌&&◌, if◌then◌else◌, Option, Some, None, unwrap_or}
use Rattle.std.specs.Option.{option_map}
use Rattle.std.specs.Ordering.{is_lt}
use Rattle.cell_values.specs.declared.datum.Broken.{Broken}
use Rattle.cell_values.specs.declared.datum.Datum.{Datum}
use Rattle.cell_values.specs.declared.datum.Datum.TheVariants.{Null, Int}
use Rattle.cell_values.specs.Nulls.{is_null}
use Rattle.cell_values.specs.Table.{exact}
use Rattle.array_rows.specs.Rows.{row_major}
use Rattle.logical_plan.specs.declared.parts.AggFunction.{AggFunction}
use Rattle.logical_plan.specs.declared.parts.AggFunction.TheVariants.{Sum, Count, CountAll, Min, Max}
use Rattle.logical_plan.specs.Groups.{unless}
use Rattle.agg_states.specs.Best.{beats}
use Rattle.agg_states.specs.Inner.Summary.{Summary}

-- of two faults the one that comes first in row-major order
abbrev pub earlier : Option Broken → Option Broken → Option Broken
earlier None b = b
earlier (Some a) None = Some a
earlier (Some a) (Some b) = if is_lt (row_major b.at.items a.at.items) then Some b else Some a

-- the number of values that a value counts for
abbrev pub count_of : Datum → ℕ
count_of v = if is_null v then 0 else 1

-- `min` and `max` keep a value
abbrev pub keeps_one : AggFunction → Bool
keeps_one Min = true
keeps_one Max = true
keeps_one f = false

-- a value that is not null takes the place of none, and of one that it beats
abbrev pub takes_place : AggFunction → Datum → Option Datum → Bool
takes_place f v None = keeps_one f
takes_place f v (Some best) = beats f v best

abbrev pub wins : AggFunction → Datum → Option Datum → Bool
wins f v best = not (is_null v) && takes_place f v best

abbrev pub best_with : AggFunction → Datum → Option Datum → Option Datum
best_with f v best = if wins f v best then Some v else best

-- of the best values of two sets the one that the other does not beat
abbrev pub better : AggFunction → Option Datum → Option Datum → Option Datum
better f None b = b
better f (Some a) None = Some a
better f (Some a) (Some b) = if beats f b a then Some b else Some a

abbrev pub total_or_null : ℕ → ℤ → Datum
total_or_null zero total = Null
total_or_null values total = exact total

-- what a state without a fault tells
abbrev pub outcome : AggFunction → ℕ → ℕ → ℤ → Option Datum → Datum
outcome Sum cells values total best = total_or_null values total
outcome Count cells values total best = Int (pos values)
outcome CountAll cells values total best = Int (pos cells)
outcome Min cells values total best = unwrap_or best Null
outcome Max cells values total best = unwrap_or best Null

abbrev pub finished : Summary → Datum
finished s = unless (option_map (λ broken. broken.kind) s.fault) (outcome s.function s.cells s.values s.total s.best)
