use Rattle.std.proofs.Common.{◌+◌, ◌*◌}
use Rattle.afl_trees.specs.Term.{to_terms, term_size, terms_size}
use Rattle.afl_types.proofs.queries.query.+query.Given as goal

abbrev pub decreases-query_of : goal.decreases-query_of
decreases-query_of l = 2 * term_size l.tree.now

abbrev pub decreases-called : goal.decreases-called
decreases-called l = 2 * terms_size (to_terms l.arguments.now) + 1
