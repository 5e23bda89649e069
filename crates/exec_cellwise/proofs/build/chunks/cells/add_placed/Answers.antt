use Rattle.std.proofs.Common.{w64, FitsSigned, rules, [], ◌∷◌, ap, ◌∙◌}
use Rattle.std.proofs.lemmas.Int.{to_z-of_z}
use Rattle.cell_values.specs.declared.datum.Datum.TheVariants.{Int}
use Rattle.array_rows.specs.Rows.{Coordinate}
use Rattle.expr_nulls.specs.ExprValue.{value_of}
use Rattle.logical_plan.specs.CellOps.{fit_values}
use Rattle.exec_cellwise.specs.Inner.Quickly.{number_of}
use Rattle.exec_cellwise.proofs.QuickLaws.{number_fits}
use Rattle.exec_cellwise.proofs.RowLaws.{pushes_one}
use Rattle.exec_cellwise.proofs.build.chunks.cells.add_placed.Goals as goal

pub returns-in-Some : goal.returns-in-Some
returns-in-Some c = λ low lengths inside place.
    let fits : FitsSigned w64 c.in-Some.number = search rules in
    let is = c.number_of.ensures ∙ ap (λ (at : Coordinate). number_of c.args.value.now at) c.as_slice.ensures.value in
    pushes_one low lengths c.args.at.now.items (Int c.in-Some.number) (fit_values c.args.attributes.now (value_of c.args.value.now c.args.at.now.items [] ∷ [])) c.args.place
    c.args.chunk.now c.push_number.new.chunk c.push_number.result inside place
    (number_fits c.args.attributes.now c.args.value.now c.args.at.now.items c.number_of.result c.in-Some.number is c.in-Some.is)
    c.push_number.ensures.number c.push_number.ensures.positions (simp to_z-of_z at c.push_number.ensures.cells)
