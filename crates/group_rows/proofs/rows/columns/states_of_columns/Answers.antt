use Rattle.std.proofs.Common.{List, subst, [], sym}
use Rattle.std.proofs.lemmas.List.{take_all}
use Rattle.array_rows.specs.Boxes.{within}
use Rattle.logical_plan.specs.declared.parts.Aggregate.{Aggregate}
use Rattle.group_rows.specs.Inner.Columns.{AreStatesInside}
use Rattle.group_rows.specs.Grouped.{AreStatesOf}
use Rattle.group_rows.proofs.ColumnLaws.{next_states_inside}
use Rattle.group_rows.proofs.rows.columns.states_of_columns.Goals as goal

pub loop-aggregate-preserved : goal.loop-aggregate-preserved
loop-aggregate-preserved c =
    next_states_inside c.args.aggregates.now c.loop-aggregate.aggregate-index c.aggregate-item.result c.args.inside.now c.args.cells.now c.loop-aggregate.states c.push.new.self c.in-Some.state
    c.loop-aggregate-test.true c.aggregate-item.is c.loop-aggregate.invariant c.in-Some.ensures c.in_ok-push.ensures.ok

pub returns : goal.returns
returns c =
    subst (λ (gs : List Aggregate). AreStatesInside gs c.args.inside.now c.args.cells.now c.loop-aggregate.states)
    (take_all c.loop-aggregate.aggregate-index c.args.aggregates.now c.loop-aggregate-test.false) c.loop-aggregate.invariant

pub loop-aggregate-init : goal.loop-aggregate-init
loop-aggregate-init c = λ area rows rise same inside. subst (AreStatesOf [] (within area rows)) (sym c.in_ok-states.ensures) tt

pub state_of_column-requires-clause-each : goal.state_of_column-requires-clause-each
state_of_column-requires-clause-each c = c.requires.each

pub state_of_column-requires-clause-few : goal.state_of_column-requires-clause-few
state_of_column-requires-clause-few c = c.requires.few
