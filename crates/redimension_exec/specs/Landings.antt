-- Where a cell lands, as far as it alone tells.
use Rattle.std.specs.Prelude.{◌≡◌, ℤ, Bool, List, [], map, Option, Some, None, Result, Ok, Err}
use Rattle.arrayvec.specs.ArrayVec.{ArrayVec}
use Rattle.cell_values.specs.declared.datum.FaultKind.{FaultKind}
use Rattle.cell_values.specs.declared.datum.Cell.{Cell}
use Rattle.cell_values.specs.declared.datum.Cell.TheVariants.{Full, Doubt}
use Rattle.cell_values.specs.declared.schema.Bounds.{Bounds}
use Rattle.array_rows.specs.Rows.{Coordinate}
use Rattle.logical_plan.specs.Groups.{number_of}
use Rattle.logical_plan.specs.Redimension.{Origin, drops, breaks, target_value, counted_places, alike_so_far, counted_up, landing_at, landing_of}

-- the numbers that a cell gives a target, a synthetic one at its low bound
abbrev pub first_numbers : List Origin → Coordinate → Cell → List ℤ
first_numbers origins c (Full vs) = map number_of (map (target_value c vs) origins)
first_numbers origins c (Doubt kind) = map number_of (map (target_value c []) origins)

-- a cell breaks the array or drops out wherever other cells land, or else has these numbers, at which the number of cells before it
-- decides
abbrev pub BeginsAs : List Origin → Coordinate → Cell → Result (Option (ArrayVec ℤ)) FaultKind → Type 0
BeginsAs origins c cell (Err kind) =
    (bounds : Bounds) (once : Bool) (taken : List Coordinate) → landing_of origins bounds once taken c cell ≡ breaks kind
BeginsAs origins c cell (Ok None) =
    (bounds : Bounds) (once : Bool) (taken : List Coordinate) → landing_of origins bounds once taken c cell ≡ drops
BeginsAs origins c cell (Ok (Some first)) =
    (first.items ≡ first_numbers origins c cell)
    × ((bounds : Bounds) (once : Bool) (taken : List Coordinate) → landing_of origins bounds once taken c cell
    ≡ landing_at bounds once taken (counted_up origins (alike_so_far (counted_places origins 0) taken first.items) first.items))
