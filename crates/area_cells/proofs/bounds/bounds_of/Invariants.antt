use Rattle.std.proofs.Common.{◌≡◌, map, take}
use Rattle.area_cells.proofs.bounds.bounds_of.Given as goal

abbrev pub invariant-loop-dimension : goal.invariant-loop-dimension
invariant-loop-dimension l = record {
  low : l.lo.items ≡ map (λ d. d.lo) (take l.dimension-index l.dimensions);
  high : l.hi.items ≡ map (λ d. d.hi) (take l.dimension-index l.dimensions);
}
