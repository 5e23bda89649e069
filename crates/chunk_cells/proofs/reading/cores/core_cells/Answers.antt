use Rattle.std.proofs.Common.{ℕ, ◌<◌, List, sym, subst}
use Rattle.std.specs.Prelude.{slice_index_or}
use Rattle.std.specs.Vec.Iter.{into_iter_items}
use Rattle.array_geom.specs.Geometry.{frame_lengths, volume, core, frame_low}
use Rattle.chunk_cells.proofs.CoreSteps.{step, place_at, rows_of_core}
use Rattle.chunk_cells.proofs.reading.cores.core_cells.Goals as goal

pub loop-position-preserved : goal.loop-position-preserved
loop-position-preserved c =
    step c.core_box-core.result c.grid_of-grid.result.low.items c.grid_of-grid.result.lengths.items c.loop-position.rows c.push_core.new.rows c.loop-position.position-index (into_iter_items c.loop-position.cells) (into_iter_items c.push_core.new.cells) c.as_slice-position-items.result.now c.args.chunk.cells
    c.loop-position-test.true c.loop-position.invariant c.in_ok-push_core.ensures.rows c.in_ok-push_core.ensures.left

pub returns : goal.returns
returns c =
    let dims = c.args.schema.now.dimensions in
    let margins = c.args.margins.now.items in
    let chunk = c.args.chunk in
    rows_of_core c.core_box-core.result (core dims chunk.at.items) c.grid_of-grid.result.low.items (frame_low dims margins chunk.at.items) c.grid_of-grid.result.lengths.items (frame_lengths dims margins)
    c.loop-position.rows c.loop-position.position-index (into_iter_items c.loop-position.cells) c.as_slice-position-items.result.now chunk.positions chunk.cells
    c.core_box-core.ensures c.grid_of-grid.ensures.low c.grid_of-grid.ensures.lengths c.as_slice-position-items.ensures c.loop-position-test.false c.loop-position.invariant

pub push_core-requires-clause-inside : goal.push_core-requires-clause-inside
push_core-requires-clause-inside c =
    let volume_of : List ℕ → Type 0 = λ lengths. slice_index_or c.as_slice-position-items.result.now c.loop-position.position-index 0 < volume lengths in
    subst volume_of (sym c.grid_of-grid.ensures.lengths)
    (place_at (volume (frame_lengths c.args.schema.now.dimensions c.args.margins.now.items)) c.args.chunk.positions c.as_slice-position-items.result.now c.loop-position.position-index
    c.as_slice-position-items.ensures c.loop-position-test.true c.requires.in_frame)
