use Rattle.test_disks.proofs.stores.pairs.answer_of_pair.Goals as goal

pub answer_to-requires-after_bounds : goal.answer_to-requires-after_bounds
answer_to-requires-after_bounds g c κs within = c.requires

pub create_all-requires-after_bounds : goal.create_all-requires-after_bounds
create_all-requires-after_bounds g c κs within = c.requires

pub returns-in-Reap : goal.returns-in-Reap
returns-in-Reap g c = record { first = c.reaped.ensures 0 c.args.pair.now.first c.requires.first; second = c.reaped.ensures 1 c.args.pair.now.second c.requires.second }

pub returns-in-Unknown : goal.returns-in-Unknown
returns-in-Unknown g c = c.requires

pub returns-in-OfSession : goal.returns-in-OfSession
returns-in-OfSession g c = c.answer_to.ensures

pub returns-in-Create : goal.returns-in-Create
returns-in-Create g c = c.create_all.ensures
