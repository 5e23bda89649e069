use Rattle.std.proofs.Common.{◌≡◌, List, Ok, sym, ap, ◌∙◌, subst}
use Rattle.std.specs.List.{AllByRecursion}
use Rattle.array_geom.proofs.MarginLaws.{overlap_each}
use Rattle.cell_values.specs.declared.datum.Row.{Row}
use Rattle.cell_values.specs.declared.schema.Attribute.{Attribute}
use Rattle.array_rows.specs.Arrays.{AreRowsOf, Meant}
use Rattle.array_geom.specs.Link.{Is}
use Rattle.logical_plan.specs.CellOps.{fit_rows}
use Rattle.chunk_cells.specs.Fitted.{HasValues}
use Rattle.chunk_cells.proofs.MergeLaws.{if_ok}
use Rattle.chunk_cells.proofs.WholeLaws.{gives_held, has_places}
use Rattle.chunk_cells.proofs.FitLaws.{have_values, fitted_rows, fitted_meant, stored_places}
use Rattle.chunk_cells.proofs.fitting.arrays.fit.Goals as goal

pub rows-requires : goal.rows-requires
rows-requires c = has_places c.args.array.now c.in-None.is c.requires.array

pub fit_rows-requires : goal.fit_rows-requires
fit_rows-requires c =
    let held = gives_held c.args.array.now c.in_ok-rows-in-None.rows c.in-None.is c.requires.array c.in_ok-rows-in-None.ensures in
    subst (λ (attributes : List Attribute). AllByRecursion (λ row. HasValues attributes row.cell) c.in_ok-rows-in-None.rows) (sym c.as_slice.ensures)
    (have_values c.args.array.now.schema.attributes c.args.schema.now.attributes c.in_ok-rows-in-None.rows c.requires.kinds held.rows_of.kinds)

pub assemble-requires-clause-rows : goal.assemble-requires-clause-rows
assemble-requires-clause-rows c =
    let held = gives_held c.args.array.now c.in_ok-rows-in-None.rows c.in-None.is c.requires.array c.in_ok-rows-in-None.ensures in
    let rows = c.in_ok-rows-in-None.rows in
    subst (AreRowsOf c.args.schema.now) (sym (c.as_slice-in-None.ensures ∙ c.in_ok-fitted-in-None.ensures ∙ ap (λ (attributes : List Attribute). fit_rows attributes rows) c.as_slice.ensures))
    (fitted_rows c.args.array.now.schema c.args.schema.now rows c.requires.valid c.requires.bounds c.requires.kinds held.rows_of)

pub assemble-requires-clause-places : goal.assemble-requires-clause-places
assemble-requires-clause-places c = stored_places c.args.schema.now c.margins_of-margins.result.items c.requires.valid c.margins_of-margins.ensures

pub returns-in_ok-fitted-in-None-clause-array : goal.returns-in_ok-fitted-in-None-clause-array
returns-in_ok-fitted-in-None-clause-array c = λ meant is.
    let held = gives_held c.args.array.now c.in_ok-rows-in-None.rows c.in-None.is c.requires.array c.in_ok-rows-in-None.ensures in
    let rows = c.in_ok-rows-in-None.rows in
    let schema = c.args.schema.now in
    let same : c.as_slice-in-None.result.now ≡ fit_rows schema.attributes rows = c.as_slice-in-None.ensures ∙ c.in_ok-fitted-in-None.ensures ∙ ap (λ (attributes : List Attribute). fit_rows attributes rows) c.as_slice.ensures in
    let meaning : List Row → Meant = λ rs. record { schema = schema; rows = Ok rs } in
    if_ok c.assemble.result c.assemble.ensures.array
    (λ made of. subst (Is made) (ap meaning same ∙ fitted_meant c.args.array.now schema meant rows c.in-None.is is held) of)

pub assemble-requires-clause-margins : goal.assemble-requires-clause-margins
assemble-requires-clause-margins c = overlap_each c.args.schema.now c.margins_of-margins.result.items c.margins_of-margins.ensures

pub broken_array-requires-clause-margins : goal.broken_array-requires-clause-margins
broken_array-requires-clause-margins c = overlap_each c.args.schema.now c.margins_of-margins.result.items c.margins_of-margins.ensures
