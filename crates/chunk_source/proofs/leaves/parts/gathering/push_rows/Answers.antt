use Rattle.std.proofs.Common.{◌++◌, ◌∙◌, ℕ, ℤ, List, ap}
use Rattle.std.specs.Vec.Iter.{into_iter_items}
use Rattle.array_geom.specs.Geometry.{frame_lengths, frame_low}
use Rattle.array_geom.specs.Link.{rows_in}
use Rattle.chunk_source.proofs.ChunkRows.{done, place_inside, step}
use Rattle.chunk_source.proofs.leaves.parts.gathering.push_rows.Goals as goal

pub loop-position-preserved : goal.loop-position-preserved
loop-position-preserved c =
    step c.grid_of-grid.result.low.items c.grid_of-grid.result.lengths.items c.args.rows.now c.loop-position.rows c.push_next.new.rows c.loop-position.position-index (into_iter_items c.loop-position.cells) (into_iter_items c.push_next.new.cells)
    c.as_slice-position-items.result.now c.args.chunk.cells c.loop-position-test.true c.loop-position.invariant c.in_ok-push_next.ensures.rows c.in_ok-push_next.ensures.left

pub push_next-requires-clause-inside : goal.push_next-requires-clause-inside
push_next-requires-clause-inside c =
    place_inside (frame_lengths c.args.schema.now.dimensions c.args.margins.now.items) c.grid_of-grid.result.lengths.items c.args.chunk.positions
    c.as_slice-position-items.result.now c.loop-position.position-index c.grid_of-grid.ensures.lengths c.as_slice-position-items.ensures
    c.requires.placed.in_frame c.loop-position-test.true

pub returns : goal.returns
returns c =
    let rows = c.args.rows.now in
    let grid = c.grid_of-grid.result in
    let margins = c.args.margins.now.items in
    let dims = c.args.schema.now.dimensions in
    let low = frame_low dims margins c.args.chunk.at.items in
    let listed = c.as_slice-position-items.result.now in
    let cells = c.args.chunk.cells in
    done grid.low.items grid.lengths.items rows c.loop-position.rows c.loop-position.position-index (into_iter_items c.loop-position.cells) listed cells
    c.loop-position-test.false c.loop-position.invariant
    ∙ ap (λ (z : List ℤ). rows ++ rows_in z grid.lengths.items listed cells) c.grid_of-grid.ensures.low
    ∙ ap (λ (z : List ℕ). rows ++ rows_in low z listed cells) c.grid_of-grid.ensures.lengths
    ∙ ap (λ (z : List ℕ). rows ++ rows_in low (frame_lengths dims margins) z cells) c.as_slice-position-items.ensures
