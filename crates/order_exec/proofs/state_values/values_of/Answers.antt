use Rattle.order_exec.proofs.RunLaws.{one_told}
use Rattle.order_exec.proofs.state_values.values_of.Goals as goal

pub loop-state-preserved : goal.loop-state-preserved
loop-state-preserved c =
    one_told c.as_slice-state-items.result.now c.loop-state.state-index c.state-item.result c.loop-state.values c.push.new.self c.in_ok-value.field-0 c.loop-state-test.true c.state-item.is
    c.loop-state.invariant c.in_ok-value.ensures c.in_ok-push.ensures.ok
