use Rattle.std.proofs.Common.{length, sym, ap, ◌∙◌}
use Rattle.array_rows.proofs.RowLaws.{length_rows}
use Rattle.array_rows.proofs.columns.rows.Rows.len.Goals as goal

pub returns : goal.returns
returns c = sym (length_rows _ _) ∙ ap length c.self.view_is
