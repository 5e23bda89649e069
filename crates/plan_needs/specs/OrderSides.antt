-- What operators along lines of cells need of their source for a box of their result.
use Rattle.std.specs.Prelude.{ℕ, zero, suc, ◌+◌, ◌==◌, if◌then◌else◌, List, [], ◌∷◌}
use Rattle.std.specs.List.{list_any}
use Rattle.cell_values.specs.declared.schema.Dimension.{Dimension}
use Rattle.plan_needs.specs.Sides.{Sides, has_empty, unless_nothing}
use Rattle.plan_needs.specs.Stretches.{stretch, all_of}

-- for each dimension, the first of which is numbered n, its side where it is named, else all of it
abbrev pub kept_sides : List ℕ → ℕ → List Dimension → Sides → Sides
kept_sides places n [] sides = []
kept_sides places n (d ∷ dims) [] = []
kept_sides places n (d ∷ dims) (s ∷ sides) = (if list_any (λ place. place == n) places then s else all_of d) ∷ kept_sides places (n + 1) dims sides

-- rank: the groups of the box; nothing for a box without places
abbrev pub of_rank : List Dimension → List ℕ → Sides → Sides
of_rank dims places sides = unless_nothing (has_empty sides) (kept_sides places 0 dims sides)

-- the box from the low bound of a dimension on
abbrev pub from_low : ℕ → List Dimension → Sides → Sides
from_low n [] sides = []
from_low n (d ∷ dims) [] = []
from_low zero (d ∷ dims) (s ∷ sides) = stretch d.lo s.last ∷ sides
from_low (suc n) (d ∷ dims) (s ∷ sides) = s ∷ from_low n dims sides

-- cumulate: the lines of the box up to it; nothing for a box without places
abbrev pub of_cumulate : List Dimension → ℕ → Sides → Sides
of_cumulate dims n sides = unless_nothing (has_empty sides) (from_low n dims sides)
