use Rattle.exec_join.proofs.CrossPieceLaws.{unpaired_in_order}
use Rattle.exec_join.proofs.arrays.cross_numbers.unpaired_numbers.Goals as goal

pub returns : goal.returns
returns c = unpaired_in_order c.args.places.now c.args.chunks.now c.in_ok-others.others c.in_order.result c.in_ok-others.ensures c.in_order.ensures.listed
