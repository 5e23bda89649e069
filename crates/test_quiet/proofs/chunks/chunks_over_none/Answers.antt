use Rattle.test_quiet.proofs.chunks.chunks_over_none.Goals as goal

pub returns-in-Ok-Ok-clause-comes : goal.returns-in-Ok-Ok-clause-comes
returns-in-Ok-Ok-clause-comes g c = rw c.in-Ok-Ok.field-0-is at c.in-Ok-Ok.ensures.comes

pub returns-in-Ok-Ok-clause-valid : goal.returns-in-Ok-Ok-clause-valid
returns-in-Ok-Ok-clause-valid g c = rw c.in-Ok-Ok.field-0-is at c.in-Ok-Ok.ensures.valid
