use Rattle.result_print.proofs.Joined.{listed_after}
use Rattle.result_print.proofs.spelling.write_list.Goals as goal

pub loop-at-preserved : goal.loop-at-preserved
loop-at-preserved g c =
    listed_after g.T.Spelled.bytes c.args.parts.now c.loop-at.at c.index-parts-at.result c.args.out.now c.loop-at.out c.separate.new.out c.write.new.out
    c.loop-at-test.true c.index-parts-at.is c.loop-at.invariant c.in_ok-separate.ensures c.in_ok-write.ensures
