use Rattle.array_rows.proofs.RowsLemmas.{cell_at-cell_wise}
use Rattle.array_rows.proofs.RowSets.{cell_at-rows_where, cell_at-put_row, cell_at-put_all, cell_at-in_order}
use Rattle.array_rows.proofs.rows.laws.cells_at_coordinates.Goals as goal

pub returns-clause-cell_wise : goal.returns-clause-cell_wise
returns-clause-cell_wise c = cell_at-cell_wise

pub returns-clause-part : goal.returns-clause-part
returns-clause-part c = cell_at-rows_where

pub returns-clause-put_row : goal.returns-clause-put_row
returns-clause-put_row c = cell_at-put_row

pub returns-clause-put_all : goal.returns-clause-put_all
returns-clause-put_all c = cell_at-put_all

pub returns-clause-in_order : goal.returns-clause-in_order
returns-clause-in_order c = cell_at-in_order
