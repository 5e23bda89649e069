use Rattle.chunk_source.proofs.KnownLaws.{known_is_sound}
use Rattle.chunk_source.proofs.leaves.parts.laws.known_rows_are_sound.Goals as goal

pub returns : goal.returns
returns c = known_is_sound
