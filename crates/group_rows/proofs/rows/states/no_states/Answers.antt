use Rattle.std.proofs.Common.{◌≤◌, [], refl, List, subst, sym, arith}
use Rattle.std.proofs.lemmas.List.{take_all}
use Rattle.logical_plan.specs.declared.parts.Aggregate.{Aggregate}
use Rattle.agg_states.specs.Inner.Summary.{Summary}
use Rattle.group_rows.specs.Counts.{cells_of}
use Rattle.group_rows.specs.Grouped.{AreStatesOf}
use Rattle.group_rows.proofs.StateLaws.{next_states, next_cells}
use Rattle.group_rows.proofs.rows.states.no_states.Goals as goal

pub loop-aggregate-preserved : goal.loop-aggregate-preserved
loop-aggregate-preserved c = record {
  states = next_states c.args.aggregates.now c.loop-aggregate.aggregate-index c.aggregate-item.result [] c.loop-aggregate.states c.push.new.self c.empty.result c.loop-aggregate-test.true c.aggregate-item.is c.loop-aggregate.invariant.states
      (c.empty.ensures.stands c.aggregate-item.result refl) c.in_ok-push.ensures.ok;
  cells = next_cells c.loop-aggregate.states c.push.new.self c.empty.result 0 c.loop-aggregate.invariant.cells c.empty.ensures.cells c.in_ok-push.ensures.ok;
}

pub returns-clause-states : goal.returns-clause-states
returns-clause-states c =
    subst (λ (gs : List Aggregate). AreStatesOf gs [] c.loop-aggregate.states) (take_all c.loop-aggregate.aggregate-index c.args.aggregates.now c.loop-aggregate-test.false) c.loop-aggregate.invariant.states

pub loop-aggregate-init : goal.loop-aggregate-init
loop-aggregate-init c =
    let none = sym c.in_ok-states.ensures in
    record { states = subst (AreStatesOf [] []) none tt; cells = subst (λ (states : List Summary). cells_of states ≤ 0) none (omega arith) }
