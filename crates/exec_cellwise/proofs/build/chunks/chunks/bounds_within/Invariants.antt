use Rattle.std.proofs.Common.{◌≡◌, map, take}
use Rattle.exec_cellwise.proofs.build.chunks.chunks.bounds_within.Given as goal

abbrev pub invariant-loop-d : goal.invariant-loop-d
invariant-loop-d l = record {
  low : l.lo.items ≡ map (λ d. d.lo) (take l.d-index l.dims);
  high : l.hi.items ≡ map (λ d. d.hi) (take l.d-index l.dims);
}
