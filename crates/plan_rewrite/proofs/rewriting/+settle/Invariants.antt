use Rattle.std.proofs.Common.{◌+◌, ◌*◌}
use Rattle.logical_plan.specs.Query.{query_size}
use Rattle.plan_rewrite.proofs.rewriting.+settle.Given as goal

abbrev pub decreases-settle : goal.decreases-settle
decreases-settle l = 3 * query_size l.plan.now

abbrev pub decreases-settle_one : goal.decreases-settle_one
decreases-settle_one l = 3 * query_size l.source.now + 2

abbrev pub decreases-settle_filter : goal.decreases-settle_filter
decreases-settle_filter l = 3 * query_size l.source.now + 1

abbrev pub decreases-settle_apply : goal.decreases-settle_apply
decreases-settle_apply l = 3 * query_size l.source.now + 1

abbrev pub decreases-settle_project : goal.decreases-settle_project
decreases-settle_project l = 3 * query_size l.source.now + 1

abbrev pub decreases-settle_between : goal.decreases-settle_between
decreases-settle_between l = 3 * query_size l.source.now + 1

abbrev pub decreases-settle_under : goal.decreases-settle_under
decreases-settle_under l = 3 * query_size l.source.now + 1

abbrev pub decreases-settle_two : goal.decreases-settle_two
decreases-settle_two l = 3 * (query_size l.left.now + query_size l.right.now) + 1
