use Rattle.std.proofs.Common.{◌≡◌, ℕ, ◌<◌, ◌≤◌, ◌^◌, List, map, length, sym, ap, ◌∙◌, subst, arith}
use Rattle.std.proofs.lemmas.List.{length-map}
use Rattle.std.specs.List.{AllByRecursion}
use Rattle.std.specs.Prelude.{IfOk, IsTrue}
use Rattle.cell_values.specs.declared.datum.Row.{Row}
use Rattle.array_rows.specs.Boxes.{bounds_of, is_inside, within}
use Rattle.array_rows.specs.Rows.{IsRising}
use Rattle.array_geom.specs.Geometry.{coordinate_in, core, frame_low, frame_lengths, volume}
use Rattle.array_geom.specs.Link.{chunk_rows, rows_in}
use Rattle.group_rows.specs.Grouped.{AreGroupsOf}
use Rattle.group_rows.specs.Counts.{cells_in}
use Rattle.group_rows.specs.Inner.Columns.{are_inside}
use Rattle.group_rows.specs.Inner.Places.{HasKey, key_of, rows_at}
use Rattle.group_rows.specs.Sets.{sets_by}
use Rattle.group_rows.proofs.PlaceLaws.{all_places}
use Rattle.exec_group.proofs.CoreColumnLaws.{all_weaker, rows_inside}
use Rattle.exec_group.proofs.parts.columns.groups_of_core.Goals as goal

pub grid_of-grid-requires : goal.grid_of-grid-requires
grid_of-grid-requires c = c.requires.cells.placed.all.0.framed

pub core_box-core-requires-clause-valid : goal.core_box-core-requires-clause-valid
core_box-core-requires-clause-valid c = c.requires.cells.placed.all.0.framed.valid

pub core_box-core-requires-clause-core : goal.core_box-core-requires-clause-core
core_box-core-requires-clause-core c = c.requires.cells.placed.all.0.framed.core

pub places_inside-requires-clause-inside : goal.places_inside-requires-clause-inside
places_inside-requires-clause-inside c =
    subst (λ (lengths : List ℕ). AllByRecursion (λ p. p < volume lengths) c.args.chunk.now.positions) (sym c.grid_of-grid.ensures.lengths) c.requires.cells.placed.all.0.placed.in_frame

pub groups_of_places-requires-clause-few : goal.groups_of_places-requires-clause-few
groups_of_places-requires-clause-few c =
    let few : length c.args.chunk.now.cells < 2 ^ 63 = c.are_few.ensures c.if-not-are_few.false in
    let each = c.requires.cells.placed.all.0.placed.each in
    let same = ap length c.as_slice.ensures in
    omega (arith, few, each, same)

pub groups_of_places-requires-clause-inside : goal.groups_of_places-requires-clause-inside
groups_of_places-requires-clause-inside c =
    subst (λ (positions : List ℕ). AllByRecursion (λ p. p < volume c.grid_of-grid.result.lengths.items) positions) (sym c.as_slice.ensures)
    (subst (λ (lengths : List ℕ). AllByRecursion (λ p. p < volume lengths) c.args.chunk.now.positions) (sym c.grid_of-grid.ensures.lengths) c.requires.cells.placed.all.0.placed.in_frame)

pub groups_of_places-requires-clause-each : goal.groups_of_places-requires-clause-each
groups_of_places-requires-clause-each c =
    ap length (c.as_slice-2.ensures ∙ c.in_ok-inside.ensures)
    ∙ length-map c.args.chunk.now.positions (λ (p : ℕ). is_inside c.core_box-core.result (coordinate_in c.grid_of-grid.result.low.items c.grid_of-grid.result.lengths.items p))
    ∙ sym (ap length c.as_slice.ensures)

pub groups_of_places-requires-clause-cells : goal.groups_of_places-requires-clause-cells
groups_of_places-requires-clause-cells c = c.requires.cells.placed.all.0.placed.each ∙ sym (ap length c.as_slice.ensures)

pub groups_of_places-requires-clause-keyed : goal.groups_of_places-requires-clause-keyed
groups_of_places-requires-clause-keyed c =
    let grid = c.grid_of-grid.result in
    let dims = c.args.schema.now.dimensions in
    let chunk = c.args.chunk.now in
    let grouping = c.args.grouping.now in
    let same : rows_at grid c.as_slice.result.now chunk.cells 0 ≡ chunk_rows dims c.args.margins.now.items chunk =
    λ i. rows_in (c.grid_of-grid.ensures.low i) (c.grid_of-grid.ensures.lengths i) (c.as_slice.ensures i) chunk.cells in
    all_places (HasKey grouping) grid.low.items grid.lengths.items c.as_slice.result.now chunk.cells (c.requires.cells.placed.all.0.placed.each ∙ sym (ap length c.as_slice.ensures))
    (subst (AllByRecursion (λ (row : Row). HasKey grouping row.at.items)) (sym same)
    (all_weaker (λ (row : Row). IsTrue (is_inside (bounds_of dims) row.at.items)) (λ (row : Row). HasKey grouping row.at.items) (chunk_rows dims c.args.margins.now.items chunk)
    (λ row inside. c.requires.keyed row.at.items inside) c.requires.cells.rows_of.0.are_rows.in_bounds))

pub groups_of_places-requires-clause-rising : goal.groups_of_places-requires-clause-rising
groups_of_places-requires-clause-rising c =
    let grid = c.grid_of-grid.result in
    let dims = c.args.schema.now.dimensions in
    let chunk = c.args.chunk.now in
    let same : rows_at grid c.as_slice.result.now chunk.cells 0 ≡ chunk_rows dims c.args.margins.now.items chunk =
    λ i. rows_in (c.grid_of-grid.ensures.low i) (c.grid_of-grid.ensures.lengths i) (c.as_slice.ensures i) chunk.cells in
    subst IsRising (sym same) c.requires.cells.rows_of.0.are_rows.rising

pub returns-clause-groups : goal.returns-clause-groups
returns-clause-groups c =
    let dims = c.args.schema.now.dimensions in
    let margins = c.args.margins.now.items in
    let chunk = c.args.chunk.now in
    let area = core dims chunk.at.items in
    let each = c.requires.cells.placed.all.0.placed.each in
    let same : rows_at c.grid_of-grid.result c.as_slice.result.now chunk.cells 0 ≡ chunk_rows dims margins chunk =
    λ i. rows_in (c.grid_of-grid.ensures.low i) (c.grid_of-grid.ensures.lengths i) (c.as_slice.ensures i) chunk.cells in
    let inside : are_inside area (rows_at c.grid_of-grid.result c.as_slice.result.now chunk.cells 0) ≡ c.as_slice-2.result.now =
    ap (are_inside area) same
    ∙ rows_inside area (frame_low dims margins chunk.at.items) (frame_lengths dims margins) chunk.positions chunk.cells each
    ∙ (λ i. map (λ (p : ℕ). is_inside (sym c.core_box-core.ensures i) (coordinate_in (sym c.grid_of-grid.ensures.low i) (sym c.grid_of-grid.ensures.lengths i) p)) chunk.positions)
    ∙ sym (c.as_slice-2.ensures ∙ c.in_ok-inside.ensures) in
    subst (λ (rows : List Row). IfOk c.groups_of_places.result (λ part. AreGroupsOf c.args.aggs.now (sets_by (key_of c.args.grouping.now) (within area rows)) part.groups)) same
    (c.groups_of_places.ensures.groups area inside)

pub returns-clause-cells : goal.returns-clause-cells
returns-clause-cells c =
    let dims = c.args.schema.now.dimensions in
    let margins = c.args.margins.now.items in
    let chunk = c.args.chunk.now in
    let area = core dims chunk.at.items in
    let each = c.requires.cells.placed.all.0.placed.each in
    let same : rows_at c.grid_of-grid.result c.as_slice.result.now chunk.cells 0 ≡ chunk_rows dims margins chunk =
    λ i. rows_in (c.grid_of-grid.ensures.low i) (c.grid_of-grid.ensures.lengths i) (c.as_slice.ensures i) chunk.cells in
    let inside : are_inside area (rows_at c.grid_of-grid.result c.as_slice.result.now chunk.cells 0) ≡ c.as_slice-2.result.now =
    ap (are_inside area) same
    ∙ rows_inside area (frame_low dims margins chunk.at.items) (frame_lengths dims margins) chunk.positions chunk.cells each
    ∙ (λ i. map (λ (p : ℕ). is_inside (sym c.core_box-core.ensures i) (coordinate_in (sym c.grid_of-grid.ensures.low i) (sym c.grid_of-grid.ensures.lengths i) p)) chunk.positions)
    ∙ sym (c.as_slice-2.ensures ∙ c.in_ok-inside.ensures) in
    subst (λ (rows : List Row). IfOk c.groups_of_places.result (λ part. cells_in part.groups ≤ length (within area rows))) same
    (c.groups_of_places.ensures.cells area inside)
