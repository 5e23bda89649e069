use Rattle.std.proofs.Common.{◌∙◌, ◌∷◌, [], ◌++◌, w64, FitsSigned, rules, ap, get_or, List, ℤ}
use Rattle.std.proofs.lemmas.Int.{to_z-of_z}
use Rattle.cell_values.specs.declared.datum.Datum.{Datum}
use Rattle.array_rows.proofs.RowLaws.{on_ok}
use Rattle.exec_cellwise.specs.Inner.Smalls.{small_at}
use Rattle.exec_cellwise.proofs.SmallLaws.{number_found, truth_found}
use Rattle.exec_cellwise.proofs.chunks.computing.push_value.Goals as goal

pub returns-in-Number : goal.returns-in-Number
returns-in-Number c =
    let row = get_or c.args.rows.now c.args.k [] in
    let fits : FitsSigned w64 c.in-Number.number = search rules in
    on_ok c.push.result
    (λ p. p ∙ ap (λ (v : Datum). c.args.column.now ++ v ∷ []) (number_found c.args.value.now c.args.at.now.items row c.walk_at.result c.in-Number.number
    (c.walk_at.ensures ∙ ap (λ (at : List ℤ). small_at c.args.value.now at row) c.as_slice.ensures.value) c.in-Number.is))
    (simp to_z-of_z at c.push.ensures)

pub returns-in-Truth : goal.returns-in-Truth
returns-in-Truth c =
    let row = get_or c.args.rows.now c.args.k [] in
    on_ok c.push-in-Truth.result
    (λ p. p ∙ ap (λ (v : Datum). c.args.column.now ++ v ∷ []) (truth_found c.args.value.now c.args.at.now.items row c.walk_at.result c.in-Truth.truth
    (c.walk_at.ensures ∙ ap (λ (at : List ℤ). small_at c.args.value.now at row) c.as_slice.ensures.value) c.in-Truth.is))
    c.push-in-Truth.ensures
