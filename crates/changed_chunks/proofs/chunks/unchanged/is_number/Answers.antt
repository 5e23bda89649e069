use Rattle.changed_chunks.proofs.chunks.unchanged.is_number.Goals as goal

pub returns-in-Some : goal.returns-in-Some
returns-in-Some c = λ _. (c.in-Some.field-0.now, c.in-Some.ensures)
