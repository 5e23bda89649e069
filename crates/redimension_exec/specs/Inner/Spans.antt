-- How many numbers and coordinates there are in a box.
use Rattle.std.specs.Prelude.{ℕ, ◌+◌, ◌-◌, ◌/◌, ◌≤◌, ◌^◌, ℤ, pos, negsuc, ◌≤ℤ◌, ◌-ℤ◌, unsigned_abs, List, [], ◌∷◌}

-- how many numbers there are from one to another
abbrev pub span : ℤ → ℤ → ℕ
span l h = unsigned_abs (h -ℤ l) + 1

-- numbers that are low and near enough, so that there are at most so many coordinates
abbrev pub HaveSpans : List ℤ → List ℤ → ℕ → Type 0
HaveSpans [] [] limit = 1 ≤ limit
HaveSpans (l ∷ lo) (h ∷ hi) limit =
    (l ≤ℤ h) × (negsuc (2 ^ 62 - 1) ≤ℤ l) × (h ≤ℤ pos (2 ^ 62)) × (span l h ≤ limit) × HaveSpans lo hi (limit / span l h)
HaveSpans _ _ _ = ⊥
