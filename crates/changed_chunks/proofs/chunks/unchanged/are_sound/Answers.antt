use Rattle.std.proofs.Common.{length, refl}
use Rattle.changed_chunks.proofs.Unchanged.{faultless_sound, numbers_sound}
use Rattle.changed_chunks.proofs.chunks.unchanged.are_sound.Goals as goal

pub returns-then-are_numbers : goal.returns-then-are_numbers
returns-then-are_numbers c = λ _. numbers_sound c.args.attributes.now c.args.cells.now (length c.args.attributes.now) c.requires refl (c.are_numbers.ensures c.if-are_numbers.true)

pub returns-then-may_stand_from : goal.returns-then-may_stand_from
returns-then-may_stand_from c = λ is. faultless_sound c.args.attributes.now c.args.cells.now (c.may_stand_from.ensures c.if-may_stand_from.true) (c.has_no_fault.ensures is)
