use Rattle.std.proofs.Common.{◌++◌, ◌∙◌, ◌∷◌, ap, arith, length, length-append, []}
use Rattle.group_rows.specs.Inner.Runs.{places_in, rows_in}
use Rattle.group_rows.proofs.TakenLaws.{no_aggregate, room_for, states_left_out, states_more, cells_fewer, cells_more}
use Rattle.group_rows.proofs.runs.+states_with.Goals as goal

pub states_with-requires : goal.states_with-requires
states_with-requires t c =
    let n = ap length c.in-Some.ensures ∙ length-append c.pop.new.self (c.in-Some.state ∷ []) in
    (omega (arith, n, c.decreases), (c.requires.run, (room_for (places_in c.args.run.now) c.args.states c.pop.new.self c.in-Some.state c.in-Some.ensures c.requires.room).0))

pub state_with-requires : goal.state_with-requires
state_with-requires t c = record { run = c.requires.run; room = (room_for (places_in c.args.run.now) c.args.states c.pop.new.self c.in-Some.state c.in-Some.ensures c.requires.room).1 }

pub returns-in-None-clause-states : goal.returns-in-None-clause-states
returns-in-None-clause-states t c = λ before h rise.
    states_left_out c.args.aggregates.now before (before ++ rows_in c.args.run.now) c.args.states c.pop.new.self c.in-None.ensures.0 c.in-None.ensures.1 h

pub returns-in-None-split_last-clause-states : goal.returns-in-None-split_last-clause-states
returns-in-None-split_last-clause-states t c = λ before h rise.
    no_aggregate c.args.aggregates.now before (before ++ rows_in c.args.run.now) c.args.states c.pop.new.self c.in-Some.state c.in-None-split_last.ensures.cases c.in-Some.ensures h

pub returns-in-None-split_last-clause-cells : goal.returns-in-None-split_last-clause-cells
returns-in-None-split_last-clause-cells t c = cells_fewer (places_in c.args.run.now) c.args.states c.pop.new.self c.in-Some.state c.in-Some.ensures

pub returns-in_ok-push-in-Some-split_last-clause-states : goal.returns-in_ok-push-in-Some-split_last-clause-states
returns-in_ok-push-in-Some-split_last-clause-states t c = λ rows h rise.
    states_more rows (rows ++ rows_in c.args.run.now) c.args.aggregates.now c.in-Some-split_last.before.now c.in-Some-split_last.aggregate.now c.args.states c.pop.new.self c.push.new.self
    c.in_ok-more-in-Some-split_last.more c.in-Some.state c.in_ok-state_with-in-Some-split_last.field-0
    c.in-Some-split_last.ensures.cases.0 c.in-Some.ensures c.in_ok-push-in-Some-split_last.ensures.ok
    (λ k. c.in_ok-more-in-Some-split_last.ensures.states rows k rise) (λ k. c.in_ok-state_with-in-Some-split_last.ensures.stands rows k rise) h

pub returns-in_ok-push-in-Some-split_last-clause-cells : goal.returns-in_ok-push-in-Some-split_last-clause-cells
returns-in_ok-push-in-Some-split_last-clause-cells t c =
    cells_more (places_in c.args.run.now) c.args.states c.pop.new.self c.push.new.self c.in_ok-more-in-Some-split_last.more c.in-Some.state c.in_ok-state_with-in-Some-split_last.field-0 c.in-Some.ensures
    c.in_ok-push-in-Some-split_last.ensures.ok c.in_ok-more-in-Some-split_last.ensures.cells c.in_ok-state_with-in-Some-split_last.ensures.cells
