use Rattle.std.proofs.Common.{refl}
use Rattle.test_disks.proofs.stores.pairs.answer_to.Goals as goal

pub take_step-requires-after_bounds : goal.take_step-requires-after_bounds
take_step-requires-after_bounds g c κs within = c.requires.first

pub take_step-requires-in-1-after_bounds : goal.take_step-requires-in-1-after_bounds
take_step-requires-in-1-after_bounds g c κs within = c.requires.second

pub returns-in-0 : goal.returns-in-0
returns-in-0 g c = record { first = c.take_step.ensures.own; second = c.take_step.ensures.others 1 c.args.pair.now.second refl c.requires.second }

pub returns-in-1 : goal.returns-in-1
returns-in-1 g c = record { first = c.take_step-in-1.ensures.others 0 c.args.pair.now.first refl c.requires.first; second = c.take_step-in-1.ensures.own }

pub returns-in_default : goal.returns-in_default
returns-in_default g c = c.requires
