use Rattle.file_meaning.proofs.Turn.{pages_turn}
use Rattle.file_meaning.proofs.next.free_pages_turn.Goals as goal

pub returns : goal.returns
returns c = pages_turn
