use Rattle.std.proofs.Common.{◌+◌, ◌*◌}
use Rattle.check_rules.specs.Term.{to_terms, term_size, terms_size}
use Rattle.check_exprs.proofs.expression.+expression.Given as goal

abbrev pub decreases-typed : goal.decreases-typed
decreases-typed l = 4 * term_size l.tree.now

abbrev pub decreases-typed_minus : goal.decreases-typed_minus
decreases-typed_minus l = 4 * term_size l.a.now + 1

abbrev pub decreases-typed_not : goal.decreases-typed_not
decreases-typed_not l = 4 * term_size l.a.now + 1

abbrev pub decreases-typed_binary : goal.decreases-typed_binary
decreases-typed_binary l = 4 * (term_size l.a.now + term_size l.b.now) + 1

abbrev pub decreases-typed_group : goal.decreases-typed_group
decreases-typed_group l = 4 * term_size l.a.now + 1

abbrev pub decreases-typed_call : goal.decreases-typed_call
decreases-typed_call l = 4 * terms_size (to_terms l.operands.now) + 3

abbrev pub decreases-typed_iif : goal.decreases-typed_iif
decreases-typed_iif l = 4 * terms_size (to_terms l.operands.now) + 2

abbrev pub decreases-typed_one : goal.decreases-typed_one
decreases-typed_one l = 4 * terms_size (to_terms l.operands.now) + 2

abbrev pub decreases-typed_choice : goal.decreases-typed_choice
decreases-typed_choice l = 4 * (term_size l.test.now + term_size l.a.now + term_size l.b.now) + 1

abbrev pub decreases-typed_operand : goal.decreases-typed_operand
decreases-typed_operand l = 4 * term_size l.a.now + 1
