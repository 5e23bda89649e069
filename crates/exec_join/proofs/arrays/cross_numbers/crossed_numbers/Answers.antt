use Rattle.exec_join.proofs.CrossPieceLaws.{crossed_in_order}
use Rattle.exec_join.proofs.arrays.cross_numbers.crossed_numbers.Goals as goal

pub returns-clause-crossed : goal.returns-clause-crossed
returns-clause-crossed c = crossed_in_order c.args.schema.now.dimensions c.args.others.now c.args.chunks.now c.in_ok-found.found c.in_order.result c.in_ok-found.ensures c.in_order.ensures.listed
