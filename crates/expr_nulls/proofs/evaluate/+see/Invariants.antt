use Rattle.std.proofs.Common.{◌+◌, ◌*◌}
use Rattle.expr_nulls.specs.Expr.{expr_size}
use Rattle.expr_nulls.proofs.evaluate.+see.Given as goal

abbrev pub decreases-see : goal.decreases-see
decreases-see l = 2 * expr_size l.expr.now

abbrev pub decreases-see_calculation : goal.decreases-see_calculation
decreases-see_calculation l = 2 * (expr_size l.a.now + expr_size l.b.now) + 1

abbrev pub decreases-see_comparison : goal.decreases-see_comparison
decreases-see_comparison l = 2 * (expr_size l.a.now + expr_size l.b.now) + 1

abbrev pub decreases-see_and : goal.decreases-see_and
decreases-see_and l = 2 * (expr_size l.a.now + expr_size l.b.now) + 1

abbrev pub decreases-see_or : goal.decreases-see_or
decreases-see_or l = 2 * (expr_size l.a.now + expr_size l.b.now) + 1

abbrev pub decreases-see_iif : goal.decreases-see_iif
decreases-see_iif l = 2 * (expr_size l.test.now + expr_size l.a.now + expr_size l.b.now) + 1

abbrev pub decreases-see_negation : goal.decreases-see_negation
decreases-see_negation l = 2 * expr_size l.a.now + 1

abbrev pub decreases-see_denial : goal.decreases-see_denial
decreases-see_denial l = 2 * expr_size l.a.now + 1

abbrev pub decreases-see_test : goal.decreases-see_test
decreases-see_test l = 2 * expr_size l.a.now + 1

abbrev pub decreases-see_length : goal.decreases-see_length
decreases-see_length l = 2 * expr_size l.a.now + 1

abbrev pub decreases-see_text : goal.decreases-see_text
decreases-see_text l = 2 * expr_size l.a.now + 1

abbrev pub decreases-see_missing : goal.decreases-see_missing
decreases-see_missing l = 2 * expr_size l.a.now + 1

abbrev pub decreases-see_reason : goal.decreases-see_reason
decreases-see_reason l = 2 * expr_size l.a.now + 1
