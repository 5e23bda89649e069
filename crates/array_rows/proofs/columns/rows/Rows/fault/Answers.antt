use Rattle.std.proofs.Common.{sym, ap, ◌∙◌}
use Rattle.array_rows.specs.CellFaults.{fault_of_values}
use Rattle.array_rows.proofs.RowLaws.{row_told}
use Rattle.array_rows.proofs.columns.rows.Rows.fault.Goals as goal

pub returns : goal.returns
returns c = c.fault_in.ensures ∙ ap fault_of_values (sym (row_told c.args.k c.self.inside.count c.self.inside.columns.items _ _ c.self.view_is c.as_slice.ensures.value c.requires))
