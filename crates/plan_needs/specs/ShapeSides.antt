-- What operators that give cells other coordinates, and that put two arrays into one, need of their sources for a box of their result.
-- A number beyond 64 bits, which no place within the bounds of a valid schema has, stays at the limit.
use Rattle.std.specs.Prelude.{ℕ, ℤ, pos, ◌+ℤ◌, ◌-ℤ◌, List, [], ◌∷◌, reverse}
use Rattle.std.specs.Int.{w64, saturate_signed}
use Rattle.cell_values.specs.declared.schema.Dimension.{Dimension}
use Rattle.array_rows.specs.Boxes.{by_pairs}
use Rattle.logical_plan.specs.Shapes.{place_of}
use Rattle.logical_plan.specs.ShapeSchemas.{enlarged}
use Rattle.plan_needs.specs.declared.stretch.Stretch.{Stretch}
use Rattle.plan_needs.specs.Sides.{Sides, whole, has_empty, unless_nothing}
use Rattle.plan_needs.specs.Stretches.{stretch, all_of, shared}

-- transpose: the box backwards
abbrev pub of_transpose : Sides → Sides
of_transpose sides = reverse sides

-- reverse: the places as far from the high bound as those of the box are from the low one
abbrev pub mirror : Dimension → ℤ → ℤ
mirror d x = saturate_signed w64 (saturate_signed w64 (d.lo +ℤ d.hi) -ℤ x)

abbrev pub opposites : Dimension → Stretch → Stretch
opposites d s = stretch (mirror d s.last) (mirror d s.first)

abbrev pub of_reverse : List Dimension → Sides → Sides
of_reverse dims sides = by_pairs opposites dims sides

-- xgrid: the places whose blocks have a place of the box; nothing for a box without places
abbrev pub places_of : Dimension → ℕ → Stretch → Stretch
places_of d size s = stretch (saturate_signed w64 (place_of d size s.first)) (saturate_signed w64 (place_of d size s.last))

abbrev pub sources : Dimension → ℕ → Stretch → Stretch
sources d size s = places_of d size (shared (all_of (enlarged d size)) s)

abbrev pub of_xgrid : List Dimension → List ℕ → Sides → Sides
of_xgrid dims sizes sides = unless_nothing (has_empty sides) (by_pairs (λ f s. f s) (by_pairs sources dims sizes) sides)

-- concat: of the left what is within its bounds, of the right the box moved back, within its bounds
abbrev pub of_front : List Dimension → Sides → Sides
of_front left sides = by_pairs shared (whole left) sides

abbrev pub step_back : Dimension → Dimension → ℤ → ℤ
step_back l r x = saturate_signed w64 (x -ℤ saturate_signed w64 (saturate_signed w64 (l.hi -ℤ r.lo) +ℤ pos 1))

abbrev pub side_back : List Dimension → List Dimension → Stretch → Stretch
side_back (l ∷ left) (r ∷ right) s = stretch (step_back l r s.first) (step_back l r s.last)
side_back left right s = s

abbrev pub first_back : List Dimension → List Dimension → Sides → Sides
first_back left right [] = []
first_back left right (s ∷ sides) = side_back left right s ∷ sides

abbrev pub of_behind : List Dimension → List Dimension → Sides → Sides
of_behind left right sides = by_pairs shared (whole right) (first_back left right sides)
