use Rattle.chunk_source.proofs.ValidLaws.{sound_chunks}
use Rattle.chunk_source.proofs.validity.laws.sound_rows_have_sound_chunks.Goals as goal

pub returns : goal.returns
returns c = sound_chunks
