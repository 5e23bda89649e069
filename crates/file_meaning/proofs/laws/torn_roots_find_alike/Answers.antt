use Rattle.file_meaning.proofs.Fewer.{torn_root}
use Rattle.file_meaning.proofs.laws.torn_roots_find_alike.Goals as goal

pub returns : goal.returns
returns c = torn_root
