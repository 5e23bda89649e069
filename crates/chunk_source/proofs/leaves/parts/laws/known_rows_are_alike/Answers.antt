use Rattle.chunk_source.proofs.KnownLaws.{known_is_alike}
use Rattle.chunk_source.proofs.leaves.parts.laws.known_rows_are_alike.Goals as goal

pub returns : goal.returns
returns c = known_is_alike
