use Rattle.std.proofs.Common.{◌≡◌, ◌+◌, ◌*◌, ◌++◌, take}
use Rattle.schema_grammar.specs.Inner.SchemaMarks.{nowhere}
use Rattle.afl_trees.specs.Term.{to_terms, term_size, terms_size}
use Rattle.afl_trees.specs.Inner.View.{term_of}
use Rattle.afl_trees.proofs.copies.+copy_tree.Given as goal

abbrev pub decreases-copy_tree : goal.decreases-copy_tree
decreases-copy_tree l = 4 * term_size l.tree.now + 1

abbrev pub decreases-copy_node : goal.decreases-copy_node
decreases-copy_node l = 4 * term_size (term_of nowhere l.node.now)

abbrev pub decreases-copy_box : goal.decreases-copy_box
decreases-copy_box l = 4 * term_size l.tree.now.value + 2

abbrev pub decreases-copy_both : goal.decreases-copy_both
decreases-copy_both l = 4 * term_size l.left.now.value + 4 * term_size l.right.now.value + 3

abbrev pub decreases-copy_trees : goal.decreases-copy_trees
decreases-copy_trees l = 4 * terms_size (to_terms l.trees.now.items) + 3

abbrev pub decreases-push_copies : goal.decreases-push_copies
decreases-push_copies l = 4 * terms_size (to_terms l.trees.now.items) + 2

abbrev pub invariant-push_copies-loop-tree : goal.invariant-push_copies-loop-tree
invariant-push_copies-loop-tree l = l.copies.items ≡ l.initial.copies.items ++ take l.tree-index l.tree-items
