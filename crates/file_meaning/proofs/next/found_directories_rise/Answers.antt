use Rattle.file_meaning.proofs.FoundRise.{found_rise}
use Rattle.file_meaning.proofs.next.found_directories_rise.Goals as goal

pub returns : goal.returns
returns c = found_rise
