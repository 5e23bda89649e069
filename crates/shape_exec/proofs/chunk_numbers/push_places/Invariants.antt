use Rattle.std.proofs.Common.{take}
use Rattle.shape_exec.specs.Inner.Added.{AddsAt}
use Rattle.shape_exec.proofs.chunk_numbers.push_places.Given as goal

abbrev pub invariant-loop-position : goal.invariant-loop-position
invariant-loop-position g l = AddsAt (g.M.CellMap.target l.map) (g.M.CellMap.back l.map) l.grid.low.items l.grid.lengths.items (take l.position-index l.positions) l.fn.found l.found
