use Rattle.std.proofs.Common.{ℤ, w64, [], ◌∷◌, ap, ◌∙◌}
use Rattle.std.proofs.lemmas.Int.{to_z-of_z}
use Rattle.cell_values.specs.declared.datum.Datum.TheVariants.{Int}
use Rattle.array_rows.specs.RowsIn.{pushed}
use Rattle.array_rows.proofs.RowLaws.{long_added, rows_added}
use Rattle.array_rows.proofs.columns.rows.Rows.push_number.Goals as goal

pub invariant_of-self-in-Ok : goal.invariant_of-self-in-Ok
invariant_of-self-in-Ok c =
    let is = c.in-Ok.ensures ∙ ap (λ (n : ℤ). pushed c.fit.new.columns.items (Int n ∷ [])) (to_z-of_z w64 c.args.number c.ranges.number) in
    long_added c.self.inside.count _ c.fit.new.columns.items _ (Int c.args.number ∷ []) c.in-Some.ensures.1 is c.in_ok-fit.ensures.long (c.in_ok-fit.ensures.width c.if-not-branch.false)

pub returns-in-Ok : goal.returns-in-Ok
returns-in-Ok c =
    let is = c.in-Ok.ensures ∙ ap (λ (n : ℤ). pushed c.fit.new.columns.items (Int n ∷ [])) (to_z-of_z w64 c.args.number c.ranges.number) in
    rows_added c.self.inside.count _ c.fit.new.columns.items _ c.self.inside.columns.items _ (Int c.args.number ∷ []) c.in-Some.ensures.1 is c.in_ok-fit.ensures.long
    (c.in_ok-fit.ensures.width c.if-not-branch.false) c.in_ok-fit.ensures.rows c.self.view_is
