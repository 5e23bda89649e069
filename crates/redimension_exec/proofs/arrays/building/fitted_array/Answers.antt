use Rattle.std.proofs.Common.{List, map, refl, sym, ap, ◌∙◌, subst}
use Rattle.cell_values.specs.declared.schema.Attribute.{Attribute}
use Rattle.array_geom.proofs.MarginLaws.{overlap_each, overlap_places}
use Rattle.array_rows.specs.Arrays.{AreRowsOf}
use Rattle.chunk_cells.proofs.FitLaws.{fitted_rows, have_values}
use Rattle.logical_plan.specs.CellOps.{fit_rows}
use Rattle.redimension_exec.proofs.arrays.building.fitted_array.Goals as goal

pub fit_rows-requires : goal.fit_rows-requires
fit_rows-requires c = have_values c.args.target.now.attributes c.as_slice.result.now c.args.rows (ap (map (λ (a : Attribute). a.kind)) c.as_slice.ensures) c.requires.kinds

pub assemble-requires-clause-rows : goal.assemble-requires-clause-rows
assemble-requires-clause-rows c =
    subst (AreRowsOf c.args.target.now) (sym (c.as_slice-2.ensures ∙ c.in_ok-fitted.ensures ∙ ap (λ (attributes : List Attribute). fit_rows attributes c.args.rows) c.as_slice.ensures))
    (fitted_rows c.args.target.now c.args.target.now c.args.rows c.requires.valid refl refl c.requires)

pub assemble-requires-clause-margins : goal.assemble-requires-clause-margins
assemble-requires-clause-margins c = overlap_each c.args.target.now c.margins_of.result.items c.margins_of.ensures

pub assemble-requires-clause-places : goal.assemble-requires-clause-places
assemble-requires-clause-places c = overlap_places c.args.target.now c.margins_of.result.items c.margins_of.ensures c.requires.valid
