use Rattle.std.proofs.Common.{sym, ap, ◌∙◌, ◌≡◌, length, ◌++◌, ◌∷◌, [], List}
use Rattle.std.proofs.lemmas.List.{length-map}
use Rattle.cell_values.specs.declared.datum.Datum.{Datum}
use Rattle.array_rows.specs.RowsIn.{row_at}
use Rattle.array_rows.proofs.RowLaws.{long_added, rows_added, row_told}
use Rattle.array_rows.proofs.columns.rows.Rows.push_row.Goals as goal

pub invariant_of-self-in-Ok : goal.invariant_of-self-in-Ok
invariant_of-self-in-Ok c =
    let w : length c.fit.new.columns.items ≡ length (row_at c.args.k c.as_slice.result.now) = c.in_ok-fit.ensures.width c.if-not-branch.false ∙ c.len.ensures ∙ sym c.as_slice.ensures.len ∙ sym (length-map c.as_slice.result.now _) in
    long_added c.self.inside.count _ c.fit.new.columns.items _ (row_at c.args.k c.as_slice.result.now) c.in-Some.ensures.1 c.in-Ok.ensures c.in_ok-fit.ensures.long w

pub returns-in-Ok : goal.returns-in-Ok
returns-in-Ok c =
    let w : length c.fit.new.columns.items ≡ length (row_at c.args.k c.as_slice.result.now) = c.in_ok-fit.ensures.width c.if-not-branch.false ∙ c.len.ensures ∙ sym c.as_slice.ensures.len ∙ sym (length-map c.as_slice.result.now _) in
    rows_added c.self.inside.count _ c.fit.new.columns.items _ c.self.inside.columns.items _ (row_at c.args.k c.as_slice.result.now) c.in-Some.ensures.1 c.in-Ok.ensures c.in_ok-fit.ensures.long w c.in_ok-fit.ensures.rows c.self.view_is
    ∙ ap (λ (row : List Datum). c.args.self.now ++ row ∷ []) (sym (row_told c.args.k c.from.inside.count c.from.inside.columns.items _ _ c.from.view_is c.as_slice.ensures.value c.requires))
