use Rattle.std.proofs.Common.{ℕ, ◌<◌, length, subst, ap, ◌∙◌}
use Rattle.std.proofs.lemmas.List.{length-map}
use Rattle.cell_values.specs.declared.datum.Cell.TheVariants.{Full}
use Rattle.array_rows.specs.declared.columns.forms.Form.{Form}
use Rattle.array_rows.specs.Inner.CellsIn.{cells_in}
use Rattle.chunk_cells.proofs.overlay.over.push_same.Goals as goal

pub push_row-requires : goal.push_row-requires
push_row-requires c = subst (λ (n : ℕ). c.args.index < n) (ap (λ (f : Form). length (cells_in f)) c.in-Even.is ∙ length-map c.in-Even.rows Full) c.requires
