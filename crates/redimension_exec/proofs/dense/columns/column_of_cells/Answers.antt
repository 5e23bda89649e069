use Rattle.std.proofs.Common.{◌∙◌, subst, sym}
use Rattle.group_rows.specs.Inner.Columns.{HaveNumbers}
use Rattle.group_rows.proofs.ColumnLaws.{as_many_numbers}
use Rattle.redimension_exec.proofs.dense.columns.column_of_cells.Goals as goal

pub column_of-requires-clause-each : goal.column_of-requires-clause-each
column_of-requires-clause-each c = as_many_numbers c.args.aggregate.now.attribute c.in-Some.numbers.now c.args.cells.now c.in-Some.ensures ∙ c.requires.each

pub returns-in_ok-states-in-Some : goal.returns-in_ok-states-in-Some
returns-in_ok-states-in-Some c = λ rows rise h. c.in_ok-states-in-Some.ensures rows rise (subst (HaveNumbers c.args.aggregate.now.attribute c.in-Some.numbers.now) (sym h) c.in-Some.ensures)
