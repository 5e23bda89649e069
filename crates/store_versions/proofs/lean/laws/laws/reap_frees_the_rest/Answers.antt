use Rattle.store_versions.proofs.Free.{reap_frees_the_rest}
use Rattle.store_versions.proofs.lean.laws.laws.reap_frees_the_rest.Goals as goal

pub returns : goal.returns
returns c = reap_frees_the_rest
