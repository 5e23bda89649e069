use Rattle.afl_trees.specs.Term.{term_size}
use Rattle.afl_types.proofs.queries.content.+content_span.Given as goal

abbrev pub decreases-content_span : goal.decreases-content_span
decreases-content_span l = term_size l.tree.now
