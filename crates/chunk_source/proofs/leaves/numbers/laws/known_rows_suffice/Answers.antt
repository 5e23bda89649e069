use Rattle.chunk_source.proofs.SufficientLaws.{suffices}
use Rattle.chunk_source.proofs.leaves.numbers.laws.known_rows_suffice.Goals as goal

pub returns : goal.returns
returns c = suffices
