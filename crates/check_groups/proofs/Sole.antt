-- Arguments that are too few or too many for a call of one.
use Rattle.std.proofs.Common.{◌≡◌, ◌<◌, ◌≤◌, None, List, [], ◌∷◌, length, refl, arith}
use Rattle.afl_trees.specs.Term.{Term, to_terms}
use Rattle.check_groups.specs.AggregateSort.{sole}

pub too_few : (xs : List Term) → length xs < 1 → sole (to_terms xs) ≡ None
too_few [] few = refl
too_few (x ∷ xs) few = absurd (omega (arith, few))

pub too_many : (xs : List Term) → 2 ≤ length xs → sole (to_terms xs) ≡ None
too_many [] many = absurd (omega (arith, many))
too_many (x ∷ []) many = absurd (omega (arith, many))
too_many (x ∷ y ∷ xs) many = refl
