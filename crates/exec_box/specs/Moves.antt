-- Boxes whose coordinates can be counted from their lowest one, and coordinates less some numbers.
use Rattle.std.specs.Prelude.{ℤ, pos, ◌-◌, ◌-ℤ◌, ◌≤ℤ◌, ◌^◌, List, [], ◌∷◌, ⊤}
use Rattle.std.specs.Int.{w64, saturate_signed}
use Rattle.cell_values.specs.declared.schema.Bounds.{Bounds}
use Rattle.array_rows.specs.Boxes.{by_pairs}
use Rattle.array_rows.specs.Rows.{Coordinate}

-- no high number is further from its low one than a number of 64 bits
abbrev pub AreShort : List ℤ → List ℤ → Type 0
AreShort [] hi = ⊤
AreShort (l ∷ lo) [] = ⊤
AreShort (l ∷ lo) (h ∷ hi) = ((h -ℤ l) ≤ℤ pos (2 ^ 63 - 1)) × AreShort lo hi

abbrev pub IsShort : Bounds → Type 0
IsShort area = AreShort area.lo.items area.hi.items

-- a coordinate less some numbers, as far as 64 bits go
abbrev pub lowered : List ℤ → Coordinate → Coordinate
lowered low c = by_pairs (λ x l. saturate_signed w64 (x -ℤ l)) c low
