use Rattle.redimension_exec.proofs.OrderLaws.{next_named}
use Rattle.redimension_exec.proofs.arrays.ordering.aggregates_named.Goals as goal

pub loop-attribute-preserved : goal.loop-attribute-preserved
loop-attribute-preserved c =
    next_named c.args.attributes.now c.as_slice-attribute-items.result.now c.args.aggregates.now c.loop-attribute.found c.push_named.new.found c.loop-attribute.attribute-index c.attribute-item.result
    c.as_slice-attribute-items.ensures c.loop-attribute-test.true c.attribute-item.is c.loop-attribute.invariant c.in_ok-push_named.ensures
