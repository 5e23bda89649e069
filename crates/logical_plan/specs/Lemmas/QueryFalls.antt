-- Each source of a plan is smaller than the plan.
use Rattle.std.specs.Prelude.{◌≤◌, max}
use Rattle.std.proofs.Common.{arith}
use Rattle.logical_plan.specs.Query.{query_size}
use Rattle.logical_plan.specs.declared.plan.PlanNode.{PlanNode}
use Rattle.logical_plan.specs.declared.plan.PlanNode.TheVariants.{Build}
use Rattle.logical_plan.specs.declared.plan.Plan.TheDeep.{deep-PlanNode}
use Rattle.logical_plan.specs.Inner.QueryView.{query_of}

pub depth_le-size : (n : PlanNode) → max (deep-PlanNode n) 0 ≤ query_size (query_of n)
depth_le-size (Build schema e) = omega arith
depth_le-size _ = omega arith
