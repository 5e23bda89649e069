use Rattle.std.proofs.Common.{◌∙◌, sym, arith}
use Rattle.group_rows.proofs.ColumnLaws.{as_many_numbers}
use Rattle.group_rows.proofs.rows.columns.state_of_column.Goals as goal

pub state_of_numbers-requires-clause-few : goal.state_of_numbers-requires-clause-few
state_of_numbers-requires-clause-few c =
    let same = as_many_numbers c.args.aggregate.now.attribute c.in-Some.numbers.now c.args.cells.now c.in-Some.ensures in
    let few = c.requires.few in
    omega (arith, same, few)

pub state_of_numbers-requires-clause-each : goal.state_of_numbers-requires-clause-each
state_of_numbers-requires-clause-each c = c.requires.each ∙ sym (as_many_numbers c.args.aggregate.now.attribute c.in-Some.numbers.now c.args.cells.now c.in-Some.ensures)

pub returns-in-Some : goal.returns-in-Some
returns-in-Some c = c.state_of_numbers.ensures c.args.cells.now c.in-Some.ensures
