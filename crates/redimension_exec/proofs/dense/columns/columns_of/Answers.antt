use Rattle.std.proofs.Common.{[], List, subst, sym}
use Rattle.std.proofs.lemmas.List.{take_all}
use Rattle.std.specs.List.{AllZip}
use Rattle.logical_plan.specs.declared.parts.Aggregate.{Aggregate}
use Rattle.redimension_exec.specs.Inner.Dense.{IsColumn, landed_there}
use Rattle.redimension_exec.proofs.TargetLaws.{next_zip}
use Rattle.redimension_exec.proofs.dense.columns.columns_of.Goals as goal

pub loop-aggregate-init : goal.loop-aggregate-init
loop-aggregate-init c = λ rows rise h. subst (AllZip (λ g states. IsColumn g c.args.to.now (landed_there c.args.to.now c.args.targets.now rows) states) []) (sym c.in_ok-columns.ensures) tt

pub loop-aggregate-preserved : goal.loop-aggregate-preserved
loop-aggregate-preserved c = λ rows rise h.
    next_zip (λ g states. IsColumn g c.args.to.now (landed_there c.args.to.now c.args.targets.now rows) states) c.args.aggregates.now c.loop-aggregate.aggregate-index c.aggregate-item.result c.loop-aggregate.columns c.push.new.self c.in-Some.states
    c.loop-aggregate-test.true c.aggregate-item.is (c.loop-aggregate.invariant rows rise h) ((rw c.in-Some.is at c.in_ok-states.ensures) rows rise h) c.in_ok-push.ensures.ok

pub returns : goal.returns
returns c = λ rows rise h.
    subst (λ (gs : List Aggregate). AllZip (λ g states. IsColumn g c.args.to.now (landed_there c.args.to.now c.args.targets.now rows) states) gs c.loop-aggregate.columns)
    (take_all c.loop-aggregate.aggregate-index c.args.aggregates.now c.loop-aggregate-test.false) (c.loop-aggregate.invariant rows rise h)
