use Rattle.std.proofs.Common.{◌≡◌, ◌∙◌, List, Ok, subst}
use Rattle.logical_plan.specs.declared.parts.Aggregate.{Aggregate}
use Rattle.check_groups.specs.Aggregates.{aggregate_one}
use Rattle.check_rules.proofs.Turns.{turn_on}
use Rattle.check_groups.proofs.aggregates.aggregate.aggregates_of.Goals as goal

pub loop-argument-preserved : goal.loop-argument-preserved
loop-argument-preserved c =
    let step = aggregate_one c.args.span c.args.attributes.now c.args.names.now in
    let one : step c.loop-argument.done c.argument-item.result ≡ Ok c.in_ok-aggregate.aggregate =
    subst (λ (done : List Aggregate). step done c.argument-item.result ≡ Ok c.in_ok-aggregate.aggregate) c.as_slice.ensures c.in_ok-aggregate.ensures in
    rw c.in_ok-push.ensures.ok (turn_on step c.loop-argument.done c.args.arguments.now c.loop-argument.argument-index c.argument-item.result c.in_ok-aggregate.aggregate
    c.loop-argument-test.true c.argument-item.is one ∙ c.loop-argument.invariant)
