use Rattle.chunk_source.proofs.ValidLaws.{valid_chunks}
use Rattle.chunk_source.proofs.validity.laws.chunks_are_valid.Goals as goal

pub returns : goal.returns
returns c = valid_chunks
