use Rattle.chunk_exec.proofs.Held.{computed}
use Rattle.chunk_exec.proofs.rows.laws.computed.laws.computed_plans_mean_arrays.Goals as goal

pub returns : goal.returns
returns c = computed
