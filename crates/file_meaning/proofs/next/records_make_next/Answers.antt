use Rattle.file_meaning.proofs.Record.{records_make_next}
use Rattle.file_meaning.proofs.next.records_make_next.Goals as goal

pub returns : goal.returns
returns c = records_make_next
