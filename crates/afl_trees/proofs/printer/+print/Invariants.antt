use Rattle.std.proofs.Common.{◌≡◌, ◌+◌, ◌*◌, ◌++◌, take}
use Rattle.std.specs.List.{flat_map}
use Rattle.afl_trees.specs.Term.{to_terms, term_size, terms_size}
use Rattle.afl_trees.proofs.PrintedParts.{behind_comma}
use Rattle.afl_trees.proofs.printer.+print.Given as goal

abbrev pub decreases-write_tree : goal.decreases-write_tree
decreases-write_tree l = 3 * term_size l.tree.now

abbrev pub decreases-write_trees : goal.decreases-write_trees
decreases-write_trees l = 3 * terms_size (to_terms l.trees.now) + 1

abbrev pub decreases-write_call : goal.decreases-write_call
decreases-write_call l = 3 * terms_size (to_terms l.arguments.now) + 2

abbrev pub decreases-write_renamed : goal.decreases-write_renamed
decreases-write_renamed l = 3 * term_size l.inner.now + 1

abbrev pub decreases-write_prefixed : goal.decreases-write_prefixed
decreases-write_prefixed l = 3 * term_size l.inner.now + 1

abbrev pub decreases-write_binary : goal.decreases-write_binary
decreases-write_binary l = 3 * (term_size l.left.now + term_size l.right.now) + 1

abbrev pub decreases-write_grouped : goal.decreases-write_grouped
decreases-write_grouped l = 3 * term_size l.inner.now + 1

abbrev pub invariant-write_trees-loop-tree : goal.invariant-write_trees-loop-tree
invariant-write_trees-loop-tree l = l.out ≡ l.initial.out ++ flat_map behind_comma (take l.tree-index l.rest)
