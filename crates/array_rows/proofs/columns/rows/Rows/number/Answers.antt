use Rattle.std.proofs.Common.{◌≡◌, sym, subst, IfSome, List, get_or}
use Rattle.cell_values.specs.declared.datum.Datum.{Datum}
use Rattle.cell_values.specs.declared.datum.Datum.TheVariants.{Null, Int}
use Rattle.array_rows.proofs.RowLaws.{row_told}
use Rattle.array_rows.proofs.columns.rows.Rows.number.Goals as goal

pub returns : goal.returns
returns c = subst (λ (row : List Datum). IfSome c.number_in.result (λ n. get_or row c.args.place Null ≡ Int n)) (sym (row_told c.args.k c.self.inside.count c.self.inside.columns.items _ _ c.self.view_is c.as_slice.ensures.value c.requires)) c.number_in.ensures
