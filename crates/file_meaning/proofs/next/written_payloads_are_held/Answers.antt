use Rattle.file_meaning.proofs.Torn.{written_held}
use Rattle.file_meaning.proofs.next.written_payloads_are_held.Goals as goal

pub returns : goal.returns
returns c = written_held
