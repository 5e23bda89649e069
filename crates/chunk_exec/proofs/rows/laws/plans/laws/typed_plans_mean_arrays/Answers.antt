use Rattle.chunk_exec.proofs.DatabasePlans.{typed_plans_mean_arrays}
use Rattle.chunk_exec.proofs.rows.laws.plans.laws.typed_plans_mean_arrays.Goals as goal

pub returns : goal.returns
returns c = typed_plans_mean_arrays
