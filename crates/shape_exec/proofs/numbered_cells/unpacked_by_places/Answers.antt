use Rattle.std.proofs.Common.{◌<◌, ◌^◌, IsTrue, List, length, rules, ap, ◌∙◌, sym, subst}
use Rattle.std.specs.List.{AllByRecursion}
use Rattle.cell_values.specs.declared.schema.Schema.{Schema}
use Rattle.array_rows.specs.Boxes.{is_inside}
use Rattle.array_geom.specs.declared.chunk.Chunk.{Chunk}
use Rattle.array_geom.specs.Geometry.{has_core}
use Rattle.array_geom.specs.Link.{core_rows}
use Rattle.array_parts.specs.Placed.{HasPlaces}
use Rattle.area_cells.specs.Found.{found_rows}
use Rattle.logical_plan.specs.Typing.{first_name}
use Rattle.order_exec.proofs.AlongLaws.{all_follows}
use Rattle.order_exec.proofs.HullLaws.{covered_rows}
use Rattle.order_exec.proofs.SortedRowsLaws.{all_within}
use Rattle.shape_exec.proofs.FoundChunks.{rows_rise}
use Rattle.shape_exec.proofs.NumberedCells.{unpack_either, unpacked_rows_are}
use Rattle.shape_exec.proofs.numbered_cells.unpacked_by_places.Goals as goal

pub box_of_cores-requires-clause-cores : goal.box_of_cores-requires-clause-cores
box_of_cores-requires-clause-cores c =
    let schema = c.args.array.now.schema in
    subst (λ (chunks : List Chunk). AllByRecursion (λ chunk. IsTrue (has_core schema.dimensions chunk.at.items)) chunks) (sym c.as_slice-chunks.ensures)
    (all_follows (HasPlaces schema c.args.array.now.margins.items) (λ chunk. IsTrue (has_core schema.dimensions chunk.at.items)) (λ chunk placed. placed.framed.core) c.args.array.now.chunks c.requires.cells.placed.all)

pub found_in-requires-clause-rows : goal.found_in-requires-clause-rows
found_in-requires-clause-rows c =
    rows_rise c.args.array.now.schema c.args.array.now.margins.items c.args.array.now.chunks c.as_slice-chunks.result.now c.as_slice-chunks.ensures c.requires.cells

pub numbered_array-requires-clause-target : goal.numbered_array-requires-clause-target
numbered_array-requires-clause-target c = (first_name c.args.target.now.dimensions, ap (λ (s : Schema). s.dimensions) c.requires.target)

pub numbered_array-requires-clause-rows : goal.numbered_array-requires-clause-rows
numbered_array-requires-clause-rows c =
    let array = c.args.array.now in
    let found = c.as_slice-cells.result.now in
    let grid = c.in-Some-grid_between.grid in
    let few : length found < 2 ^ 62 = search rules in
    let chunks = c.as_slice-chunks.result.now in
    let dims = array.schema.dimensions in
    let margins = array.margins.items in
    let covered = covered_rows dims margins c.in-Some.area chunks c.in-Some.ensures in
    let rows = ap (found_rows grid) c.as_slice-cells.ensures ∙ c.in_ok-found.ensures.rows_are ∙ all_within (is_inside c.in-Some.area) (core_rows dims margins chunks) covered ∙ ap (core_rows dims margins) c.as_slice-chunks.ensures in
    unpacked_rows_are array c.args.target.now grid found c.requires.cells (first_name c.args.target.now.dimensions, c.requires.target) c.requires.valid rows few

pub returns-clause-array : goal.returns-clause-array
returns-clause-array c =
    let array = c.args.array.now in
    let found = c.as_slice-cells.result.now in
    let grid = c.in-Some-grid_between.grid in
    let few : length found < 2 ^ 62 = search rules in
    let chunks = c.as_slice-chunks.result.now in
    let dims = array.schema.dimensions in
    let margins = array.margins.items in
    let covered = covered_rows dims margins c.in-Some.area chunks c.in-Some.ensures in
    let rows = ap (found_rows grid) c.as_slice-cells.ensures ∙ c.in_ok-found.ensures.rows_are ∙ all_within (is_inside c.in-Some.area) (core_rows dims margins chunks) covered ∙ ap (core_rows dims margins) c.as_slice-chunks.ensures in
    unpack_either array c.args.target.now (found_rows grid found) c.in_ok-made.made c.requires.whole rows
    (unpacked_rows_are array c.args.target.now grid found c.requires.cells (first_name c.args.target.now.dimensions, c.requires.target) c.requires.valid rows few)
    c.in_ok-made.ensures.array
