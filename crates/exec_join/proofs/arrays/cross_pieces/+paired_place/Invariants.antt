use Rattle.std.proofs.Common.{length}
use Rattle.exec_join.proofs.arrays.cross_pieces.+paired_place.Given as goal

abbrev pub decreases-paired_place : goal.decreases-paired_place
decreases-paired_place l = length l.pairs.now
