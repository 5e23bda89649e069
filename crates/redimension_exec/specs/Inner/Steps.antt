-- What becomes of one row after others, where no two may land at one coordinate, and of rows one after another.
use Rattle.std.specs.Prelude.{◌≡◌, ℕ, ℤ, true, List, ◌∷◌, ◌++◌, map, reverse, Option, Some, None, Result, Ok, Err}
use Rattle.std.specs.BTreeMap.{BTreeMap}
use Rattle.arrayvec.specs.ArrayVec.{ArrayVec}
use Rattle.cell_values.specs.declared.datum.Broken.{Broken}
use Rattle.cell_values.specs.declared.datum.Cell.{Cell}
use Rattle.cell_values.specs.declared.datum.FaultKind.{FaultKind}
use Rattle.cell_values.specs.declared.datum.Row.{Row}
use Rattle.cell_values.specs.declared.schema.Bounds.{Bounds}
use Rattle.array_rows.specs.Rows.{Coordinate}
use Rattle.logical_plan.specs.Faults.{if_whole}
use Rattle.logical_plan.specs.Redimension.{Origin, Landed, lands, drops, breaks, counted_places}
use Rattle.logical_plan.specs.Redimension.{alike_so_far, counted_up, landing_at, landing_of, landed, carried}
use Rattle.redimension_exec.specs.Inner.Counting.{AreCountsOf}

-- of a cell with these first numbers: the fault that breaks the array, or the target, which is then counted
abbrev pub IsPlaced : List Origin → Bounds → List Coordinate → Coordinate → Result (ArrayVec ℤ) FaultKind → BTreeMap (ArrayVec ℤ) ℕ → Type 0
IsPlaced origins bounds taken first (Err kind) counts =
    landing_at bounds true taken (counted_up origins (alike_so_far (counted_places origins 0) taken first) first) ≡ breaks kind
IsPlaced origins bounds taken first (Ok at) counts =
    (landing_at bounds true taken (counted_up origins (alike_so_far (counted_places origins 0) taken first) first) ≡ lands at.items)
    × AreCountsOf origins (at.items ∷ taken) counts

-- of any cell: the fault that breaks the array, or none where it drops out, or the target, which is then counted
abbrev pub IsLanded : List Origin → Bounds → List Coordinate → Coordinate → Cell → Result (Option (ArrayVec ℤ)) FaultKind → BTreeMap (ArrayVec ℤ) ℕ → Type 0
IsLanded origins bounds taken c cell (Err kind) counts = landing_of origins bounds true taken c cell ≡ breaks kind
IsLanded origins bounds taken c cell (Ok None) counts = (landing_of origins bounds true taken c cell ≡ drops) × AreCountsOf origins taken counts
IsLanded origins bounds taken c cell (Ok (Some at)) counts =
    (landing_of origins bounds true taken c cell ≡ lands at.items) × AreCountsOf origins (at.items ∷ taken) counts

-- the coordinates of rows, the last one first
abbrev pub targets_of : List Row → List Coordinate
targets_of rows = reverse (map (λ row. row.at.items) rows)

-- rows that were made, and those that further rows of the source make
abbrev pub continued : List Origin → List Row → Result (List Landed) Broken → Result (List Row) Broken
continued values made more = if_whole (λ all. made ++ map (carried values) all) more

-- one row further: it breaks the array, or the same rows come of what is left
abbrev pub IsStep : List Origin → Bounds → List Origin → List Row → Row → Option FaultKind → List Row → BTreeMap (ArrayVec ℤ) ℕ → Type 0
IsStep origins bounds values made row (Some kind) made' counts =
    (rows : List Row) → landed origins bounds true (row ∷ rows) (targets_of made) ≡ Err (record { at = row.at; kind = kind })
IsStep origins bounds values made row None made' counts =
    ((rows : List Row) → continued values made (landed origins bounds true (row ∷ rows) (targets_of made))
    ≡ continued values made' (landed origins bounds true rows (targets_of made')))
    × AreCountsOf origins (targets_of made') counts

-- what broke the array, or else these rows
abbrev pub broken_or : Option Broken → Result (List Row) Broken → Result (List Row) Broken
broken_or None rows = rows
broken_or (Some broken) rows = Err broken

-- rows one after the other: one breaks the array, or the same rows come of what is left, and those that land are counted
pub record AreSteps (origins : List Origin) (bounds : Bounds) (values : List Origin) (made rows : List Row)
    (broken : Option Broken) (made' : List Row) (counts : BTreeMap (ArrayVec ℤ) ℕ) : Type 0 where
  pub same : (more : List Row) → continued values made (landed origins bounds true (rows ++ more) (targets_of made))
      ≡ broken_or broken (continued values made' (landed origins bounds true more (targets_of made')))
  pub counts_of : broken ≡ None → AreCountsOf origins (targets_of made') counts
