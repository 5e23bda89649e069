use Rattle.exec_join.proofs.FrontLaws.{none_paired}
use Rattle.exec_join.proofs.arrays.cross_pieces.+paired_place.Goals as goal

pub returns-in-empty : goal.returns-in-empty
returns-in-empty t c = none_paired c.args.pairs.now c.args.place c.in-empty.len_below
