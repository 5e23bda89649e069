use Rattle.array_rows.specs.Boxes.{is_inside, within}
use Rattle.array_rows.proofs.RowSets.{IsRising-rows_where}
use Rattle.group_rows.proofs.rows.columns.one_of_columns.Goals as goal

pub returns-in_ok-alone-in-Some-clause-groups : goal.returns-in_ok-alone-in-Some-clause-groups
returns-in_ok-alone-in-Some-clause-groups c = λ area rows rise same inside.
    let states = rw c.in-Some.is at c.in_ok-states_of_columns.ensures in
    c.in_ok-alone-in-Some.ensures.groups c.args.aggregates.now (within area rows) (IsRising-rows_where (is_inside area) rows rise) (states area rows rise same inside)

pub returns-in_ok-alone-in-Some-clause-cells : goal.returns-in_ok-alone-in-Some-clause-cells
returns-in_ok-alone-in-Some-clause-cells c = λ area rows rise same inside.
    let states = rw c.in-Some.is at c.in_ok-states_of_columns.ensures in
    c.in_ok-alone-in-Some.ensures.cells c.args.aggregates.now (within area rows) (states area rows rise same inside)
