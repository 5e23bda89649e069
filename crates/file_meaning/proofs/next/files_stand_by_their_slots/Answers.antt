use Rattle.file_meaning.proofs.BySlots.{stand_by, have_slots}
use Rattle.file_meaning.proofs.next.files_stand_by_their_slots.Goals as goal

pub returns : goal.returns
returns c = record { stands = stand_by; slots = have_slots }
