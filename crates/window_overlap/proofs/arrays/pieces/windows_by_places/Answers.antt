use Rattle.std.proofs.Common.{ℕ, List, length, refl, sym, ap, ◌∙◌, subst}
use Rattle.cell_values.specs.declared.schema.Dimension.{Dimension}
use Rattle.array_rows.specs.Rows.{IsRising}
use Rattle.array_geom.specs.Inner.Ranges.{is_in_grid}
use Rattle.array_parts.specs.Cores.{cores_of}
use Rattle.group_rows.proofs.WholeLaws.{of_cores}
use Rattle.area_cells.specs.declared.finding.Found.{Found}
use Rattle.area_cells.specs.Found.{found_rows}
use Rattle.window_overlap.specs.Inner.Dense.{AreOffsets}
use Rattle.window_overlap.specs.Inner.Reached.{reached}
use Rattle.window_overlap.proofs.ArraysWindowLaws.{can_aggregate, short_windows}
use Rattle.window_overlap.proofs.ChunksWindowLaws.{can_within, rising_within}
use Rattle.window_overlap.proofs.PieceLaws.{each_reach, rows_there}
use Rattle.window_overlap.proofs.SetLaws.{filled_windows, held_by, is_set}
use Rattle.window_overlap.proofs.arrays.pieces.windows_by_places.Goals as goal

pub columns_of-requires-clause-rising : goal.columns_of-requires-clause-rising
columns_of-requires-clause-rising c =
    let all = cores_of c.args.array.now in
    let grid = c.in-Some-grid_between.grid in
    let there = rows_there c.args.reach.now c.args.area.now c.args.array.now.schema.dimensions c.args.array.now.margins.items c.as_slice-3.result.now c.args.array.now.chunks (found_rows grid c.in_ok-found.found) c.reach_of-reached.result c.as_slice-3.ensures c.reach_of-reached.ensures c.in_ok-found.ensures.rows_are in
    subst (λ (fs : List Found). IsRising (found_rows grid fs)) (sym c.as_slice-4.ensures)
    (rising_within (reached c.args.reach.now c.args.area.now) all (found_rows grid c.in_ok-found.found) there (of_cores c.args.array.now all refl c.requires.cells).are_rows.rising)

pub chunk_of_windows-requires-clause-rising : goal.chunk_of_windows-requires-clause-rising
chunk_of_windows-requires-clause-rising c =
    let all = cores_of c.args.array.now in
    let grid = c.in-Some-grid_between.grid in
    let there = rows_there c.args.reach.now c.args.area.now c.args.array.now.schema.dimensions c.args.array.now.margins.items c.as_slice-3.result.now c.args.array.now.chunks (found_rows grid c.in_ok-found.found) c.reach_of-reached.result c.as_slice-3.ensures c.reach_of-reached.ensures c.in_ok-found.ensures.rows_are in
    rising_within (reached c.args.reach.now c.args.area.now) all (found_rows grid c.in_ok-found.found) there (of_cores c.args.array.now all refl c.requires.cells).are_rows.rising

pub chunk_of_windows-requires-clause-typed : goal.chunk_of_windows-requires-clause-typed
chunk_of_windows-requires-clause-typed c =
    let all = cores_of c.args.array.now in
    let grid = c.in-Some-grid_between.grid in
    let there = rows_there c.args.reach.now c.args.area.now c.args.array.now.schema.dimensions c.args.array.now.margins.items c.as_slice-3.result.now c.args.array.now.chunks (found_rows grid c.in_ok-found.found) c.reach_of-reached.result c.as_slice-3.ensures c.reach_of-reached.ensures c.in_ok-found.ensures.rows_are in
    can_within (reached c.args.reach.now c.args.area.now) c.args.aggs.now all (found_rows grid c.in_ok-found.found) there (can_aggregate c.args.array.now.schema c.args.aggs.now all (of_cores c.args.array.now all refl c.requires.cells) c.requires.typed)

pub chunk_of_windows-requires-clause-held : goal.chunk_of_windows-requires-clause-held
chunk_of_windows-requires-clause-held c =
    held_by c.args.target.now c.args.margins.now.items c.args.number.now.items c.grid_of-places.result c.args.area.now c.requires.framed c.grid_of-places.ensures.low c.grid_of-places.ensures.lengths c.requires.area

pub chunk_of_windows-requires-clause-set : goal.chunk_of_windows-requires-clause-set
chunk_of_windows-requires-clause-set c =
    let grid = c.in-Some-grid_between.grid in
    let shape = c.in-Some.shape in
    let offsets = subst (AreOffsets shape c.grid_from-origin.result) (sym c.as_slice-6.ensures) c.in_ok-offsets.ensures in
    is_set c.args.target.now c.args.margins.now.items c.args.number.now.items c.args.reach.now c.args.area.now c.reach_of-reached.result grid shape c.grid_from-origin.result c.as_slice-6.result.now c.requires.framed c.requires.area c.reach_of-reached.ensures
    (short_windows c.args.array.now.schema c.args.reach.now c.requires.reach)
    (each_reach c.args.array.now.schema c.args.reach.now c.requires.reach ∙ sym (ap (λ (ds : List Dimension). length ds) c.requires.same))
    c.in-Some-grid_between.ensures.grid c.in-Some.ensures.grid c.in-Some-grid_between.ensures.held c.in-Some-grid_between.ensures.low_places c.in-Some.ensures.low c.in-Some.ensures.lengths c.grid_from-origin.ensures.low c.grid_from-origin.ensures.lengths
    (λ low d h. ap (λ (ns : List ℕ). is_in_grid low ns d) (sym c.as_slice-2.ensures.value) ∙ c.if-not-fits.ensures.held refl low d (ap (λ (ns : List ℕ). is_in_grid low ns d) c.as_slice.ensures.value ∙ h)) offsets

pub returns-clause-filled : goal.returns-clause-filled
returns-clause-filled c =
    let all = cores_of c.args.array.now in
    let grid = c.in-Some-grid_between.grid in
    let there = rows_there c.args.reach.now c.args.area.now c.args.array.now.schema.dimensions c.args.array.now.margins.items c.as_slice-3.result.now c.args.array.now.chunks (found_rows grid c.in_ok-found.found) c.reach_of-reached.result c.as_slice-3.ensures c.reach_of-reached.ensures c.in_ok-found.ensures.rows_are in
    filled_windows c.args.target.now c.args.margins.now.items c.args.number.now.items c.args.area.now c.args.reach.now c.args.aggs.now all (found_rows grid c.in_ok-found.found) c.grid_of-places.result c.in_ok-made.made c.requires.framed c.requires.area
    (short_windows c.args.array.now.schema c.args.reach.now c.requires.reach)
    (each_reach c.args.array.now.schema c.args.reach.now c.requires.reach ∙ sym (ap (λ (ds : List Dimension). length ds) c.requires.same)) there c.grid_of-places.ensures.low c.grid_of-places.ensures.lengths c.in_ok-made.ensures.filled
