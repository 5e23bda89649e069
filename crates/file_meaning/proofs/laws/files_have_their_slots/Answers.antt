use Rattle.file_meaning.proofs.SlotLaws.{slots_are}
use Rattle.file_meaning.proofs.SlotsBack.{slots_open}
use Rattle.file_meaning.proofs.laws.files_have_their_slots.Goals as goal

pub returns : goal.returns
returns c = record { has = slots_are; opens = slots_open }
