use Rattle.group_rows.proofs.MergeLaws.{if_ok}
use Rattle.group_rows.proofs.rows.forming.one_group.Goals as goal

pub returns-clause-groups : goal.returns-clause-groups
returns-clause-groups c =
    if_ok c.alone.result c.alone.ensures.groups (λ made h. h c.args.aggregates.now c.args.rows.now c.requires.rising c.in_ok-states.ensures.states)

pub returns-clause-cells : goal.returns-clause-cells
returns-clause-cells c = if_ok c.alone.result c.alone.ensures.cells (λ made h. h c.args.aggregates.now c.args.rows.now c.in_ok-states.ensures.states)
