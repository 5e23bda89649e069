use Rattle.file_meaning.proofs.Payloads.{read_is_spelled, spelled_is_read}
use Rattle.file_meaning.proofs.laws.payloads_are_spelled.Goals as goal

pub returns : goal.returns
returns c = record { read = read_is_spelled; spelled = spelled_is_read }
