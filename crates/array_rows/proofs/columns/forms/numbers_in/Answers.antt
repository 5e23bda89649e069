use Rattle.std.proofs.Common.{◌≡◌, sym, ap, subst, ◌∙◌, map, IfSome, List}
use Rattle.cell_values.specs.declared.datum.Datum.{Datum}
use Rattle.cell_values.specs.declared.datum.Datum.TheVariants.{Int}
use Rattle.array_rows.specs.Inner.CellsIn.{cells_in, value_in}
use Rattle.array_rows.proofs.ColumnLaws.{values_of_full}
use Rattle.array_rows.proofs.columns.forms.numbers_in.Goals as goal

pub returns-in-Even : goal.returns-in-Even
returns-in-Even c = subst (λ (vs : List Datum). IfSome c.numbers.result (λ ns. vs ≡ map Int ns.now)) (sym (ap (λ f. map (value_in c.args.place) (cells_in f)) c.in-Even.is ∙ values_of_full c.args.place _)) c.numbers.ensures
