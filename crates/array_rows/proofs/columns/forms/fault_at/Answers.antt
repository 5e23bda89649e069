use Rattle.std.proofs.Common.{◌<◌, ◌∙◌, ℕ, List, length, ap, subst}
use Rattle.std.proofs.lemmas.List.{length-map}
use Rattle.cell_values.specs.declared.datum.Cell.TheVariants.{Full}
use Rattle.cell_values.specs.declared.datum.Datum.{Datum}
use Rattle.array_rows.specs.declared.columns.forms.Form.{Form}
use Rattle.array_rows.specs.Inner.CellsIn.{cells_in}
use Rattle.array_rows.proofs.columns.forms.fault_at.Goals as goal

pub fault-requires : goal.fault-requires
fault-requires c = subst (λ (n : ℕ). c.args.k < n) (ap (λ (f : Form). length (cells_in f)) c.in-Even.is ∙ length-map c.in-Even.rows (λ (row : List Datum). Full row)) c.requires
