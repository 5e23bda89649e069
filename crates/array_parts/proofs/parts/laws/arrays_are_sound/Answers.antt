use Rattle.array_parts.proofs.LawProofs.{arrays_are_sound}
use Rattle.array_parts.proofs.parts.laws.arrays_are_sound.Goals as goal

pub returns : goal.returns
returns c = arrays_are_sound
