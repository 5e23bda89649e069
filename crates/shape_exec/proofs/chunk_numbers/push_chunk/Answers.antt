use Rattle.std.proofs.Common.{◌≡◌, ℕ, ℤ, true, List, sym, subst}
use Rattle.std.specs.List.{AllByRecursion}
use Rattle.cell_values.specs.declared.schema.Dimension.{Dimension}
use Rattle.array_rows.specs.Boxes.{bounds_of, is_inside}
use Rattle.array_geom.specs.Geometry.{coordinate_in, frame_lengths, frame_low}
use Rattle.shape_exec.proofs.PullParts.{positions_inside}
use Rattle.shape_exec.proofs.chunk_numbers.push_chunk.Goals as goal

pub push_places-requires-clause-inside : goal.push_places-requires-clause-inside
push_places-requires-clause-inside g c =
    let array = c.args.array.now in
    let chunk = c.args.chunk.now in
    let low = frame_low array.schema.dimensions array.margins.items chunk.at.items in
    let lengths = frame_lengths array.schema.dimensions array.margins.items in
    let here = positions_inside (bounds_of array.schema.dimensions) low lengths chunk.positions chunk.cells c.requires.placed.placed.each c.requires.cells.are_rows.in_bounds in
    let one = subst (λ (dims : List Dimension). AllByRecursion (λ p. is_inside (bounds_of dims) (coordinate_in low lengths p) ≡ true) chunk.positions) (sym c.requires.source) here in
    let source = g.M.CellMap.source c.args.map.now in
    let two = subst (λ (l : List ℤ). AllByRecursion (λ p. is_inside (bounds_of source) (coordinate_in l lengths p) ≡ true) chunk.positions) (sym c.grid_of-grid.ensures.low) one in
    let three = subst (λ (ls : List ℕ). AllByRecursion (λ p. is_inside (bounds_of source) (coordinate_in c.grid_of-grid.result.low.items ls p) ≡ true) chunk.positions) (sym c.grid_of-grid.ensures.lengths) two in
    subst (AllByRecursion (λ p. is_inside (bounds_of source) (coordinate_in c.grid_of-grid.result.low.items c.grid_of-grid.result.lengths.items p) ≡ true)) (sym c.as_slice.ensures) three
