use Rattle.command_words.proofs.words.laws.forms_keep_their_places.Goals as goal
use Rattle.command_words.proofs.PlaceLaws.{keep_places}

pub returns : goal.returns
returns c = keep_places
