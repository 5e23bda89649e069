use Rattle.std.proofs.Common.{[], arith}
use Rattle.group_rows.proofs.MergeLaws.{if_ok}
use Rattle.group_rows.proofs.rows.states.states_of.Goals as goal

pub returns-clause-states : goal.returns-clause-states
returns-clause-states c =
    if_ok c.states_with.result c.states_with.ensures.states (λ made h. h [] c.in_ok-no_states.ensures.states c.requires.rising)

pub returns-clause-cells : goal.returns-clause-cells
returns-clause-cells c =
    let none = c.in_ok-no_states.ensures.cells in
    if_ok c.states_with.result c.states_with.ensures.cells (λ made more. omega (arith, none, more))
