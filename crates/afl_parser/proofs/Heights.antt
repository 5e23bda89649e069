-- Heights of trees and of argument lists.
use Rattle.std.proofs.Common.{◌≡◌, max, ◌≤◌, List, [], ◌∷◌, ◌++◌, arith}
use Rattle.afl_trees.specs.Term.{Term, create, to_terms}
use Rattle.afl_trees.specs.Grammar.{height, heights}

pub heights_of_more : (ts : List Term) (t : Term) → heights (to_terms (ts ++ t ∷ [])) ≡ max (heights (to_terms ts)) (height t)
heights_of_more [] t = omega arith
heights_of_more (a ∷ ts) t = omega (arith, heights_of_more ts t)

pub one_le : (t : Term) → 1 ≤ height t
one_le (create s n m) = omega arith
one_le _ = omega arith
