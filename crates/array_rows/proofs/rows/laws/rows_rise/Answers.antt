use Rattle.array_rows.proofs.RowsLemmas.{IsRising-cell_wise}
use Rattle.array_rows.proofs.RowSets.{IsRising-rows_where, IsRising-put_row, IsRising-put_all, IsRising-in_order}
use Rattle.array_rows.proofs.rows.laws.rows_rise.Goals as goal

pub returns-clause-cell_wise : goal.returns-clause-cell_wise
returns-clause-cell_wise c = IsRising-cell_wise

pub returns-clause-part : goal.returns-clause-part
returns-clause-part c = IsRising-rows_where

pub returns-clause-put_row : goal.returns-clause-put_row
returns-clause-put_row c = IsRising-put_row

pub returns-clause-put_all : goal.returns-clause-put_all
returns-clause-put_all c = IsRising-put_all

pub returns-clause-in_order : goal.returns-clause-in_order
returns-clause-in_order c = IsRising-in_order
