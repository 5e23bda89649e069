use Rattle.std.proofs.Common.{[], ◌∷◌}
use Rattle.expr_nulls.specs.ExprValue.{value_of}
use Rattle.logical_plan.specs.CellOps.{fit_values}
use Rattle.exec_cellwise.proofs.RowLaws.{pushes_one}
use Rattle.exec_cellwise.proofs.build.chunks.cells.add_computed.Goals as goal

pub returns : goal.returns
returns c = λ low lengths inside place.
    pushes_one low lengths c.args.at.now.items c.in_ok-made.made (fit_values c.args.attributes.now (value_of c.args.value.now c.args.at.now.items [] ∷ [])) c.args.place
    c.args.chunk.now c.push_value-pushed.new.chunk c.push_value-pushed.result inside place c.in_ok-made.ensures c.push_value-pushed.ensures.number c.push_value-pushed.ensures.positions c.push_value-pushed.ensures.cells
