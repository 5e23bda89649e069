use Rattle.std.proofs.Common.{◌≡◌, ◌<◌, ◌*◌, ◌∷◌, [], length, map, take}
use Rattle.std.specs.List.{AllByRecursion}
use Rattle.array_geom.specs.Geometry.{frame_lengths, frame_low}
use Rattle.array_geom.specs.Link.{rows_in}
use Rattle.logical_plan.specs.Ordered.{numbered}
use Rattle.shape_exec.specs.Inner.Unpacked.{unpacked_found}
use Rattle.shape_exec.proofs.numbered_cells.numbered_chunk.Given as goal

abbrev pub invariant-loop-place : goal.invariant-loop-place
invariant-loop-place l = record {
  long : length l.positions ≡ l.place;
  as_many : length l.cells ≡ l.place;
  below : AllByRecursion (λ p. p < 1000) l.positions;
  rows : rows_in (frame_low l.target.dimensions l.margins.items (l.number ∷ [])) (frame_lengths l.target.dimensions l.margins.items) l.positions l.cells
      ≡ numbered (l.number * 1000) (map (unpacked_found l.grid) (take l.place l.found));
}
