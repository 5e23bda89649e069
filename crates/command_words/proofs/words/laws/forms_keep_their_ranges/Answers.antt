use Rattle.command_words.proofs.words.laws.forms_keep_their_ranges.Goals as goal
use Rattle.command_words.proofs.RangeLaws.{keep_ranges}

pub returns : goal.returns
returns c = keep_ranges
