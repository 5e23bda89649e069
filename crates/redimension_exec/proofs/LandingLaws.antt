-- Where a cell's own values let it land.
use Rattle.std.proofs.Common.{◌≡◌, ℤ, true, false, cond, List, [], ◌∷◌, map, length, Some, None, Ok, Err, refl, sym, arith}
use Rattle.std.specs.List.{list_any}
use Rattle.arrayvec.specs.ArrayVec.{ArrayVec}
use Rattle.cell_values.specs.declared.datum.Cell.{Cell}
use Rattle.cell_values.specs.declared.datum.Cell.TheVariants.{Full, Doubt}
use Rattle.cell_values.specs.declared.datum.Datum.{Datum}
use Rattle.cell_values.specs.declared.datum.FaultKind.{FaultKind}
use Rattle.cell_values.specs.Nulls.{is_null}
use Rattle.array_rows.specs.Rows.{Coordinate}
use Rattle.logical_plan.specs.Groups.{bad_kind, first_some, number_of}
use Rattle.logical_plan.specs.Redimension.{Origin, from_dimension, from_attribute, counted, drops, target_value, counted_places, alike_so_far, counted_up, landing_at, unless_fault}
use Rattle.redimension_exec.specs.Inner.Counting.{HasLows}
use Rattle.redimension_exec.specs.Landings.{BeginsAs, first_numbers}

pub begins_faulty : (origins : List Origin) (c : Coordinate) (vs : List Datum) (kind : FaultKind) → Some kind ≡ first_some bad_kind (map (target_value c vs) origins)
    → BeginsAs origins c (Full vs) (Err kind)
begins_faulty origins c vs kind f = λ bounds once taken. λ i.
    unless_fault (sym f i)
    (cond (list_any is_null (map (target_value c vs) origins)) drops
    (landing_at bounds once taken (counted_up origins (alike_so_far (counted_places origins 0) taken (map number_of (map (target_value c vs) origins))) (map number_of (map (target_value c vs) origins)))))

pub begins_null : (origins : List Origin) (c : Coordinate) (vs : List Datum) → None ≡ first_some bad_kind (map (target_value c vs) origins)
    → list_any is_null (map (target_value c vs) origins) ≡ true → BeginsAs origins c (Full vs) (Ok None)
begins_null origins c vs f e = λ bounds once taken. λ i.
    unless_fault (sym f i)
    (cond (e i) drops
    (landing_at bounds once taken (counted_up origins (alike_so_far (counted_places origins 0) taken (map number_of (map (target_value c vs) origins))) (map number_of (map (target_value c vs) origins)))))

pub begins_numbers : (origins : List Origin) (c : Coordinate) (vs : List Datum) (first : ArrayVec ℤ) → None ≡ first_some bad_kind (map (target_value c vs) origins)
    → list_any is_null (map (target_value c vs) origins) ≡ false → first.items ≡ map number_of (map (target_value c vs) origins) → BeginsAs origins c (Full vs) (Ok (Some first))
begins_numbers origins c vs first f e n = (
  n,
  λ bounds once taken. λ i.
      unless_fault (sym f i)
      (cond (e i) drops
      (landing_at bounds once taken (counted_up origins (alike_so_far (counted_places origins 0) taken (sym n i)) (sym n i)))),
)

lows : (c : Coordinate) (vs : List Datum) (origins : List Origin) → HasLows origins (map number_of (map (target_value c vs) origins))
lows c vs [] = tt
lows c vs (counted lo ∷ origins) = (refl, lows c vs origins)
lows c vs (from_dimension place ∷ origins) = lows c vs origins
lows c vs (from_attribute place ∷ origins) = lows c vs origins

pub first_lows : (origins : List Origin) (c : Coordinate) (cell : Cell) → HasLows origins (first_numbers origins c cell)
first_lows origins c (Full vs) = lows c vs origins
first_lows origins c (Doubt kind) = lows c [] origins

long : (f : Datum → ℤ) (g : Origin → Datum) (origins : List Origin) → length (map f (map g origins)) ≡ length origins
long f g [] = refl
long f g (o ∷ origins) = grind (arith, long f g origins)

pub first_length : (origins : List Origin) (c : Coordinate) (cell : Cell) → length (first_numbers origins c cell) ≡ length origins
first_length origins c (Full vs) = long number_of (target_value c vs) origins
first_length origins c (Doubt kind) = long number_of (target_value c []) origins
