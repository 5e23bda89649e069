use Rattle.array_rows.proofs.RowLaws.{row_found}
use Rattle.array_rows.proofs.columns.rows.Rows.row.Goals as goal

pub returns : goal.returns
returns c = row_found c.args.k c.self.inside.count c.self.inside.columns.items _ _ _ c.self.view_is c.as_slice.ensures.value c.requires c.values_at.ensures
