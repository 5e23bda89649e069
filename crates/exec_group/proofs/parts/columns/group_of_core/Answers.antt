use Rattle.std.proofs.Common.{◌≡◌, ℕ, ◌<◌, List, map, length, sym, ap, ◌∙◌, subst}
use Rattle.std.proofs.lemmas.List.{length-map}
use Rattle.std.specs.List.{AllByRecursion}
use Rattle.std.specs.Prelude.{IfOk, IfSome}
use Rattle.array_rows.specs.Boxes.{is_inside}
use Rattle.array_rows.specs.Rows.{Coordinate}
use Rattle.array_geom.specs.Geometry.{coordinate_in, core, frame_low, frame_lengths, volume}
use Rattle.array_geom.specs.Link.{chunk_rows}
use Rattle.group_rows.specs.Grouped.{AreGroupsOf}
use Rattle.group_rows.specs.Inner.Columns.{are_inside}
use Rattle.group_rows.specs.Inner.Keys.{core_of}
use Rattle.group_rows.specs.Sets.{one_set}
use Rattle.exec_group.proofs.CoreColumnLaws.{cells_again, rows_inside}
use Rattle.exec_group.proofs.parts.columns.group_of_core.Goals as goal

pub grid_of-grid-requires : goal.grid_of-grid-requires
grid_of-grid-requires c = c.requires.placed.all.0.framed

pub core_box-core-requires-clause-valid : goal.core_box-core-requires-clause-valid
core_box-core-requires-clause-valid c = c.requires.placed.all.0.framed.valid

pub core_box-core-requires-clause-core : goal.core_box-core-requires-clause-core
core_box-core-requires-clause-core c = c.requires.placed.all.0.framed.core

pub places_inside-requires-clause-inside : goal.places_inside-requires-clause-inside
places_inside-requires-clause-inside c =
    subst (λ (lengths : List ℕ). AllByRecursion (λ p. p < volume lengths) c.args.chunk.now.positions) (sym c.grid_of-grid.ensures.lengths) c.requires.placed.all.0.placed.in_frame

pub one_of_columns-requires-clause-each : goal.one_of_columns-requires-clause-each
one_of_columns-requires-clause-each c =
    ap length (c.as_slice.ensures ∙ c.in_ok-inside.ensures)
    ∙ length-map c.args.chunk.now.positions (λ (p : ℕ). is_inside c.core_box-core.result (coordinate_in c.grid_of-grid.result.low.items c.grid_of-grid.result.lengths.items p))
    ∙ sym c.requires.placed.all.0.placed.each

pub returns-clause-groups : goal.returns-clause-groups
returns-clause-groups c =
    let dims = c.args.schema.now.dimensions in
    let margins = c.args.margins.now.items in
    let chunk = c.args.chunk.now in
    let area = core dims chunk.at.items in
    let each = c.requires.placed.all.0.placed.each in
    let inside : are_inside area (chunk_rows dims margins chunk) ≡ c.as_slice.result.now =
    rows_inside area (frame_low dims margins chunk.at.items) (frame_lengths dims margins) chunk.positions chunk.cells each
    ∙ (λ i. map (λ (p : ℕ). is_inside (sym c.core_box-core.ensures i) (coordinate_in (sym c.grid_of-grid.ensures.low i) (sym c.grid_of-grid.ensures.lengths i) p)) chunk.positions)
    ∙ sym (c.as_slice.ensures ∙ c.in_ok-inside.ensures) in
    subst (λ (at : Coordinate). IfOk c.one_of_columns.result (λ found. IfSome found (λ part. AreGroupsOf c.args.aggs.now (one_set at (core_of dims margins chunk)) part.groups))) c.zero.ensures
    (c.one_of_columns.ensures.groups area (chunk_rows dims margins chunk) c.requires.rows_of.0.are_rows.rising
    (cells_again (frame_low dims margins chunk.at.items) (frame_lengths dims margins) chunk.positions chunk.cells each) inside)

pub returns-clause-cells : goal.returns-clause-cells
returns-clause-cells c =
    let dims = c.args.schema.now.dimensions in
    let margins = c.args.margins.now.items in
    let chunk = c.args.chunk.now in
    let area = core dims chunk.at.items in
    let each = c.requires.placed.all.0.placed.each in
    let inside : are_inside area (chunk_rows dims margins chunk) ≡ c.as_slice.result.now =
    rows_inside area (frame_low dims margins chunk.at.items) (frame_lengths dims margins) chunk.positions chunk.cells each
    ∙ (λ i. map (λ (p : ℕ). is_inside (sym c.core_box-core.ensures i) (coordinate_in (sym c.grid_of-grid.ensures.low i) (sym c.grid_of-grid.ensures.lengths i) p)) chunk.positions)
    ∙ sym (c.as_slice.ensures ∙ c.in_ok-inside.ensures) in
    c.one_of_columns.ensures.cells area (chunk_rows dims margins chunk) c.requires.rows_of.0.are_rows.rising
    (cells_again (frame_low dims margins chunk.at.items) (frame_lengths dims margins) chunk.positions chunk.cells each) inside
