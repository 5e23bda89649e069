use Rattle.std.proofs.Common.{◌+◌}
use Rattle.logical_plan.specs.Query.{query_size}
use Rattle.chunk_exec.proofs.plans.compute.+compute.Given as goal

abbrev pub decreases-compute : goal.decreases-compute
decreases-compute g l = query_size l.plan.now + query_size l.plan.now + 1

abbrev pub decreases-over_one : goal.decreases-over_one
decreases-over_one g l = query_size l.plan.now + query_size l.plan.now

abbrev pub decreases-over_two : goal.decreases-over_two
decreases-over_two g l = query_size l.plan.now + query_size l.plan.now
