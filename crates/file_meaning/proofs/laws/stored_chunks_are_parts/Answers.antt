use Rattle.file_meaning.proofs.Payloads.{stored_part, part_stored}
use Rattle.file_meaning.proofs.laws.stored_chunks_are_parts.Goals as goal

pub returns : goal.returns
returns c = record { parts = stored_part; one = part_stored }
