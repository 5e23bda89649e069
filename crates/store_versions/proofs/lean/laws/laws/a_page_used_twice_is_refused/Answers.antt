use Rattle.std.proofs.Common.{refl}
use Rattle.store_versions.proofs.WorkedList.{twice_legal, twice_refused}
use Rattle.store_versions.proofs.lean.laws.laws.a_page_used_twice_is_refused.Goals as goal

pub returns : goal.returns
returns c = record { legal = twice_legal; twice = refl; refused = twice_refused }
