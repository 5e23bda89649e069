-- Each part of a tree is smaller than the tree.
use Rattle.std.specs.Prelude.{◌≤◌, ◌+◌, max, List, [], ◌∷◌}
use Rattle.std.proofs.Common.{arith}
use denote.Param.Weighed.{most}
use Rattle.cell_values.specs.declared.name.Span.{Span}
use Rattle.afl_trees.specs.Term.{Term, term_size, terms_size, to_terms}
use Rattle.afl_trees.specs.declared.tree.Node.{Node}
use Rattle.afl_trees.specs.declared.tree.Node.TheVariants.{Call}
use Rattle.afl_trees.specs.declared.tree.Tree.TheDeep.{deep-Node}
use Rattle.afl_trees.specs.Inner.View.{term_of}

pub most_le-size : (ts : List Term) → most (λ t. term_size t + 1) ts ≤ terms_size (to_terms ts) + 1
most_le-size [] = omega arith
most_le-size (t ∷ ts) = omega (arith, most_le-size ts)

pub depth_le-size : (s : Span) (n : Node) → max (deep-Node n) 0 ≤ term_size (term_of s n)
depth_le-size s (Call n ts) = omega (arith, most_le-size ts.items)
depth_le-size s _ = omega arith
