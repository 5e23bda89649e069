use Rattle.exec_join.proofs.CrossPieceLaws.{more_with}
use Rattle.exec_join.proofs.arrays.cross_numbers.push_others_of.Goals as goal

pub loop-k-preserved : goal.loop-k-preserved
loop-k-preserved c =
    more_with c.args.schema.now.dimensions c.args.front.now.items c.args.others.now c.loop-k.k c.index-others-k.result c.args.found.now c.loop-k.found c.push_with.new.found c.loop-k-test.true c.index-others-k.is c.loop-k.invariant c.in_ok-push_with.ensures
