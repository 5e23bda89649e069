-- Numbers of groups, by the places of the groups.
use Rattle.std.specs.Prelude.{◌≡◌, ℕ, zero, suc, ◌+◌, ◌<◌, ℤ, pos, ◌==◌, if◌then◌else◌, List, [], ◌∷◌, ◌++◌, map, length, slice_index_or}
use Rattle.std.specs.List.{AllByRecursion}
use Rattle.cell_values.specs.declared.datum.Datum.TheVariants.{Int}
use Rattle.array_rows.specs.Boxes.{by_pairs}
use Rattle.logical_plan.specs.Ordered.{below}
use Rattle.order_exec.specs.Inner.Ranked.{AreInOrder}

-- those of the numbers whose group has this place
abbrev pub numbers_there : ℕ → List ℕ → List ℤ → List ℤ
numbers_there p [] numbers = []
numbers_there p (place ∷ places) [] = []
numbers_there p (place ∷ places) (n ∷ numbers) = if place == p then n ∷ numbers_there p places numbers else numbers_there p places numbers

-- each number stands behind those of its group
pub record TakesNumbers (places : List ℕ) (numbers : List ℤ) (old new : List (List ℤ)) : Type 0 where
  pub long : length new ≡ length old
  pub each : (p : ℕ) → p < length old → slice_index_or new p [] ≡ slice_index_or old p [] ++ numbers_there p places numbers

-- the numbers of each group are in order
abbrev pub AreRising : List (List ℤ) → Type 0
AreRising groups = AllByRecursion (λ numbers. AreInOrder (map Int numbers)) groups

-- the rank of a number in the group with a place
abbrev pub number_rank : List (List ℤ) → ℕ → ℤ → ℤ
number_rank groups place n = pos (1 + below (Int n) (map Int (slice_index_or groups place [])))

abbrev pub ranks_in : List (List ℤ) → List ℕ → List ℤ → List ℤ
ranks_in groups places numbers = by_pairs (number_rank groups) places numbers
