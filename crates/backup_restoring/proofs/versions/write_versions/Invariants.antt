use Rattle.std.proofs.Common.{map, take}
use Rattle.backup_format.specs.PiecePlaces.{version_in}
use Rattle.backup_restoring.specs.Restores.{version_pages}
use Rattle.backup_restoring.specs.Inner.Layout.{blob_at, HoldsPieces}
use Rattle.backup_restoring.specs.Inner.Writing.{Lays}
use Rattle.backup_restoring.proofs.versions.write_versions.Given as goal

-- the first of them lie in their pages
abbrev pub invariant-loop-version : goal.invariant-loop-version
invariant-loop-version g l =
    Lays version_pages blob_at HoldsPieces l.first (map (version_in l.whole) (take l.version-index l.versions)) l.next l.directories l.fn.file.slots l.file.slots (g.D.Disk.moment l.fn.file.disk) (g.D.Disk.moment l.file.disk)
