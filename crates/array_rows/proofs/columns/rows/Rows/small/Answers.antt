use Rattle.std.proofs.Common.{sym, ap, ◌∙◌, get_or, List}
use Rattle.cell_values.specs.declared.datum.Datum.{Datum}
use Rattle.cell_values.specs.declared.datum.Datum.TheVariants.{Null}
use Rattle.array_rows.specs.Seen.{seen}
use Rattle.array_rows.proofs.RowLaws.{row_told}
use Rattle.array_rows.proofs.columns.rows.Rows.small.Goals as goal

pub returns : goal.returns
returns c = c.small_in.ensures ∙ ap (λ (row : List Datum). seen (get_or row c.args.place Null)) (sym (row_told c.args.k c.self.inside.count c.self.inside.columns.items _ _ c.self.view_is c.as_slice.ensures.value c.requires))
