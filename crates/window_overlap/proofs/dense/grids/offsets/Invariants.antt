use Rattle.std.proofs.Common.{◌≡◌, ◌<◌, ℕ, length, slice_index_or}
use Rattle.array_geom.specs.Geometry.{position_in}
use Rattle.window_overlap.specs.Inner.Dense.{place_of}
use Rattle.window_overlap.proofs.dense.grids.offsets.Given as goal

abbrev pub invariant-loop-k : goal.invariant-loop-k
invariant-loop-k l = record {
  long : length l.offsets ≡ l.k;
  each : (j : ℕ) → j < l.k → slice_index_or l.offsets j 0 ≡ position_in l.within.low.items l.within.lengths.items (place_of l.window j);
}
