-- Numbers and places between two bounds.
use Rattle.std.specs.Prelude.{ℕ, zero, suc, ◌+◌, ℤ, pos, ◌+ℤ◌, ◌-ℤ◌, int_le, unsigned_abs, if◌then◌else◌, List, [], ◌∷◌}

-- so many numbers from this one on
abbrev pub count_from : ℤ → ℕ → List ℤ
count_from lo zero = []
count_from lo (suc n) = lo ∷ count_from (lo +ℤ pos 1) n

-- from the low to the high bound, both of them counted
abbrev pub how_many : ℤ → ℤ → ℕ
how_many lo hi = if int_le lo hi then unsigned_abs (hi -ℤ lo) + 1 else 0
