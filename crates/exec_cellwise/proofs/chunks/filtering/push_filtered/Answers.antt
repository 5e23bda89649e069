use Rattle.std.proofs.Common.{◌∙◌, ap, sym, true, false, get_or, [], List, ℤ}
use Rattle.cell_values.specs.declared.datum.Datum.{Datum}
use Rattle.array_rows.proofs.RowLaws.{on_ok}
use Rattle.array_parts.specs.Made.{with_cell}
use Rattle.logical_plan.specs.CellOps.{kept}
use Rattle.exec_cellwise.specs.Inner.Smalls.{small_at}
use Rattle.exec_cellwise.proofs.SmallLaws.{truth_at}
use Rattle.exec_cellwise.proofs.chunks.filtering.push_filtered.Goals as goal

pub returns-in-Truth-true : goal.returns-in-Truth-true
returns-in-Truth-true c =
    let row = get_or c.args.rows.now c.args.k [] in
    on_ok c.push_same.result
    (λ p. p ∙ ap (λ (v : Datum). with_cell c.args.made.now c.args.position (kept v row)) (sym (truth_at c.args.test.now c.args.at.now.items row c.walk_at.result c.in-Truth-true.field-0 true
    (c.walk_at.ensures ∙ ap (λ (at : List ℤ). small_at c.args.test.now at row) c.as_slice.ensures.value) c.in-Truth-true.is c.in-Truth-true.field-0-test)))
    c.push_same.ensures

pub returns-in-Truth-false : goal.returns-in-Truth-false
returns-in-Truth-false c =
    let row = get_or c.args.rows.now c.args.k [] in
    ap (λ (v : Datum). with_cell c.args.made.now c.args.position (kept v row)) (sym (truth_at c.args.test.now c.args.at.now.items row c.walk_at.result c.in-Truth-false.field-0 false
    (c.walk_at.ensures ∙ ap (λ (at : List ℤ). small_at c.args.test.now at row) c.as_slice.ensures.value) c.in-Truth-false.is c.in-Truth-false.field-0-test))
