use Rattle.std.proofs.Common.{map, take}
use Rattle.backup_format.specs.PiecePlaces.{array_in}
use Rattle.backup_restoring.specs.Restores.{array_pages}
use Rattle.backup_restoring.specs.Inner.Layout.{array_at, HoldsArray}
use Rattle.backup_restoring.specs.Inner.Writing.{Lays}
use Rattle.backup_restoring.proofs.arrays.write_arrays.Given as goal

-- the first of them lie in their pages
abbrev pub invariant-loop-array : goal.invariant-loop-array
invariant-loop-array g l =
    Lays array_pages array_at HoldsArray l.first (map (array_in l.whole) (take l.array-index l.arrays)) l.next l.catalog l.fn.file.slots l.file.slots (g.D.Disk.moment l.fn.file.disk) (g.D.Disk.moment l.file.disk)
