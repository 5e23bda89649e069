-- A number that a form took as a row.
use Rattle.std.proofs.Common.{◌≡◌, Bool, true, false, cond, List, [], ◌∷◌, ◌++◌, map, sym, ap, ◌∙◌, Result, Ok, Err, IfOk}
use Rattle.std.proofs.lemmas.List.{map-append}
use Rattle.cell_values.specs.declared.memory.Memory.{Memory}
use Rattle.cell_values.specs.declared.datum.Datum.{Datum}
use Rattle.cell_values.specs.declared.datum.Cell.{Cell}
use Rattle.cell_values.specs.declared.datum.Cell.TheVariants.{Full}
use Rattle.array_rows.specs.declared.columns.forms.Form.{Form}
use Rattle.array_rows.specs.declared.columns.forms.Form.TheVariants.{Even}
use Rattle.array_rows.specs.Inner.CellsIn.{cells_in}

pub taken : (form : Form) (old now : List (List Datum)) (v w : Datum) → w ≡ v → form ≡ Even old → (r : Result Bool Memory)
    → IfOk r (λ taken. now ≡ cond taken (old ++ (w ∷ []) ∷ []) old)
    → IfOk r (λ taken. map Full now ≡ cond taken (cells_in form ++ Full (v ∷ []) ∷ []) (cells_in form))
taken form old now v w same is (Ok true) e =
    ap (map (λ (row : List Datum). Full row)) (e ∙ ap (λ (u : Datum). old ++ (u ∷ []) ∷ []) same)
    ∙ map-append (λ (row : List Datum). Full row) old ((v ∷ []) ∷ [])
    ∙ ap (λ (f : Form). cells_in f ++ Full (v ∷ []) ∷ []) (sym is)
taken form old now v w same is (Ok false) e = ap (map (λ (row : List Datum). Full row)) e ∙ ap cells_in (sym is)
taken form old now v w same is (Err error) e = e
