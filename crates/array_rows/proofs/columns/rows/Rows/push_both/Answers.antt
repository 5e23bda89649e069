use Rattle.std.proofs.Common.{◌≡◌, ◌+◌, length, ◌++◌, ◌∷◌, [], List, ℕ, sym, ap, ◌∙◌}
use Rattle.cell_values.specs.declared.datum.Datum.{Datum}
use Rattle.array_rows.specs.RowsIn.{row_at}
use Rattle.array_rows.proofs.RowLaws.{both_long, long_added, rows_added, row_told}
use Rattle.array_rows.proofs.columns.rows.Rows.push_both.Goals as goal

pub invariant_of-self-in-Ok : goal.invariant_of-self-in-Ok
invariant_of-self-in-Ok c =
    let vs = row_at c.args.i c.as_slice.result.now ++ row_at c.args.j c.as_slice-2.result.now in
    let w : length c.fit.new.columns.items ≡ length vs =
    c.in_ok-fit.ensures.width c.if-not-branch.false ∙ c.in-Some.ensures.1 ∙ (λ t. (c.len.ensures ∙ sym c.as_slice.ensures.len) t + (c.len-2.ensures ∙ sym c.as_slice-2.ensures.len) t) ∙ sym (both_long c.as_slice.result.now c.as_slice-2.result.now c.args.i c.args.j) in
    long_added c.self.inside.count _ c.fit.new.columns.items _ vs c.in-Some-checked_add.ensures.1 c.in-Ok.ensures c.in_ok-fit.ensures.long w

pub returns-in-Ok : goal.returns-in-Ok
returns-in-Ok c =
    let left = row_at c.args.i c.as_slice.result.now in
    let right = row_at c.args.j c.as_slice-2.result.now in
    let w : length c.fit.new.columns.items ≡ length (left ++ right) =
    c.in_ok-fit.ensures.width c.if-not-branch.false ∙ c.in-Some.ensures.1 ∙ (λ t. (c.len.ensures ∙ sym c.as_slice.ensures.len) t + (c.len-2.ensures ∙ sym c.as_slice-2.ensures.len) t) ∙ sym (both_long c.as_slice.result.now c.as_slice-2.result.now c.args.i c.args.j) in
    rows_added c.self.inside.count _ c.fit.new.columns.items _ c.self.inside.columns.items _ (left ++ right) c.in-Some-checked_add.ensures.1 c.in-Ok.ensures c.in_ok-fit.ensures.long w c.in_ok-fit.ensures.rows c.self.view_is
    ∙ (λ t. c.args.self.now ++ (sym (row_told c.args.i c.left.inside.count c.left.inside.columns.items _ _ c.left.view_is c.as_slice.ensures.value c.requires.left) t
    ++ sym (row_told c.args.j c.right.inside.count c.right.inside.columns.items _ _ c.right.view_is c.as_slice-2.ensures.value c.requires.right) t) ∷ [])
