use Rattle.test_disks.proofs.stores.pairs.create_all.Goals as goal

pub create_one-answer-requires-after_bounds : goal.create_one-answer-requires-after_bounds
create_one-answer-requires-after_bounds g c κs within = c.loop-number.invariant

pub loop-number-preserved : goal.loop-number-preserved
loop-number-preserved g c = c.create_one-answer.ensures
