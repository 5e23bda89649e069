use Rattle.file_meaning.proofs.Torn.{torn_alike}
use Rattle.file_meaning.proofs.next.torn_bases_stand_alike.Goals as goal

pub returns : goal.returns
returns c = torn_alike
