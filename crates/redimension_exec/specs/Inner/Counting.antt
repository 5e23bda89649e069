-- How many cells landed with the same numbers, and that the numbers of a target tell which cell came before which.
use Rattle.std.specs.Prelude.{◌≡◌, ℕ, ℤ, List, [], ◌∷◌, length, filter, Bool, true, false, ⊤}
use Rattle.std.specs.BTreeMap as tree
use Rattle.std.specs.BTreeMap.{BTreeMap}
use Rattle.std.specs.List.{list_any}
use Rattle.std.specs.Option.{unwrap_or}
use Rattle.std.specs.Ordering.{is_eq}
use Rattle.std.specs.declared.cmp.Ordering.{Ordering}
use Rattle.arrayvec.specs.ArrayVec.{ArrayVec}
use Rattle.array_rows.specs.Rows.{Coordinate, row_major}
use Rattle.logical_plan.specs.Redimension.{Origin, counted, counted_up}

abbrev pub by_numbers : ArrayVec ℤ → ArrayVec ℤ → Ordering
by_numbers v w = row_major v.items w.items

abbrev pub is_counted : Origin → Bool
is_counted (counted lo) = true
is_counted _ = false

abbrev pub has_counted : List Origin → Bool
has_counted origins = list_any is_counted origins

-- the numbers but the synthetic ones
abbrev pub uncounted : List Origin → Coordinate → Coordinate
uncounted [] c = c
uncounted (o ∷ origins) [] = []
uncounted (counted lo ∷ origins) (x ∷ c) = uncounted origins c
uncounted (_ ∷ origins) (x ∷ c) = x ∷ uncounted origins c

-- the synthetic numbers are the low bounds
abbrev pub HasLows : List Origin → Coordinate → Type 0
HasLows [] c = ⊤
HasLows (o ∷ origins) [] = ⊤
HasLows (counted lo ∷ origins) (x ∷ c) = (x ≡ lo) × HasLows origins c
HasLows (_ ∷ origins) (x ∷ c) = HasLows origins c

-- how many targets have these numbers but for the synthetic ones
abbrev pub landed_with : List Origin → List Coordinate → Coordinate → ℕ
landed_with origins taken key = length (filter (λ t. is_eq (row_major (uncounted origins t) key)) taken)

-- each target is numbered by how many came before it
abbrev pub AreNumbered : List Origin → List Coordinate → Type 0
AreNumbered origins [] = ⊤
AreNumbered origins (t ∷ taken) =
    ((first : Coordinate) × (length first ≡ length origins) × HasLows origins first
    × (t ≡ counted_up origins (landed_with origins taken (uncounted origins first)) first))
    × AreNumbered origins taken

-- the counts are those of the targets so far
pub record AreCountsOf (origins : List Origin) (taken : List Coordinate) (counts : BTreeMap (ArrayVec ℤ) ℕ) : Type 0 where
  pub each : (key : ArrayVec ℤ) → unwrap_or (tree.get by_numbers counts key) 0 ≡ landed_with origins taken key.items
  pub numbered : AreNumbered origins taken
