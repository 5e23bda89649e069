use Rattle.std.proofs.Common.{◌<◌, ◌∙◌, ℕ, List, length, ap, subst, [], get_or, sym}
use Rattle.std.proofs.lemmas.List.{length-map, get_or-map}
use Rattle.cell_values.specs.declared.datum.Cell.TheVariants.{Full}
use Rattle.cell_values.specs.declared.datum.Datum.{Datum}
use Rattle.array_rows.specs.declared.columns.forms.Form.{Form}
use Rattle.array_rows.specs.Inner.CellsIn.{cells_in}
use Rattle.array_rows.proofs.columns.forms.cell_in.Goals as goal

pub row-requires : goal.row-requires
row-requires c = subst (λ (n : ℕ). c.args.k < n) (ap (λ (f : Form). length (cells_in f)) c.in-Even.is ∙ length-map c.in-Even.rows (λ (row : List Datum). Full row)) c.requires

pub returns-in_ok-row-in-Even : goal.returns-in_ok-row-in-Even
returns-in_ok-row-in-Even c =
    let near : c.args.k < length c.in-Even.rows
    = subst (λ (n : ℕ). c.args.k < n) (ap (λ (f : Form). length (cells_in f)) c.in-Even.is ∙ length-map c.in-Even.rows (λ (row : List Datum). Full row)) c.requires in
    ap (λ (row : List Datum). Full row) c.in_ok-row-in-Even.ensures
    ∙ sym (ap (λ (f : Form). get_or (cells_in f) c.args.k (Full [])) c.in-Even.is ∙ get_or-map (λ (row : List Datum). Full row) c.in-Even.rows c.args.k [] (Full []) near)
