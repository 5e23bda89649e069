use Rattle.std.proofs.Common.{◌≡◌, map, take}
use Rattle.std.specs.Prelude.{sum_by}
use Rattle.backup_format.specs.PiecePlaces.{array_in}
use Rattle.backup_restoring.specs.Restores.{array_pages, array_length}
use Rattle.backup_restoring.proofs.counting.arrays_extent.Given as goal

abbrev pub invariant-loop-array : goal.invariant-loop-array
invariant-loop-array l = record {
  pages : l.extent.pages ≡ sum_by array_pages (map (array_in l.whole) (take l.array-index l.arrays));
  bytes : l.extent.bytes ≡ sum_by array_length (map (array_in l.whole) (take l.array-index l.arrays));
}
