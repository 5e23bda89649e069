use Rattle.exec_cellwise.proofs.AppliedLaws.{applied_more}
use Rattle.exec_cellwise.proofs.chunks.applying.push_applied.Goals as goal

pub loop-applied-preserved : goal.loop-applied-preserved
loop-applied-preserved c =
    applied_more c.args.at.now.items c.args.values.now c.args.more.now c.loop-applied.applied-index c.applied-item.result c.len-count.result
    c.loop-applied.values c.push.new.self c.in_ok-value.value c.loop-applied-test.true c.applied-item.is c.len-count.ensures c.loop-applied.invariant
    c.in_ok-value.ensures c.in_ok-push.ensures.ok
