use Rattle.file_meaning.proofs.WrongSlots.{opens_or_wrong, one_found, one_page, not_both}
use Rattle.file_meaning.proofs.laws.files_open_or_are_wrong.Goals as goal

pub returns : goal.returns
returns c = record { either = opens_or_wrong; one = one_found; page = one_page; apart = not_both }
