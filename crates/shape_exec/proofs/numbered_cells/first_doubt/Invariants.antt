use Rattle.std.proofs.Common.{◌≤◌, length, drop}
use Rattle.area_cells.specs.Found.{found_rows}
use Rattle.shape_exec.specs.Inner.Unpacked.{IsFirstDoubt}
use Rattle.shape_exec.proofs.numbered_cells.first_doubt.Given as goal

abbrev pub invariant-doubting : goal.invariant-doubting
invariant-doubting l = record {
  within : l.k ≤ length l.found;
  first : IsFirstDoubt l.k (found_rows l.grid (drop l.k l.found)) l.broken;
}

abbrev pub decreases-doubting : goal.decreases-doubting
decreases-doubting l = l.k
