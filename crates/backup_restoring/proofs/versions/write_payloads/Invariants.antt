use Rattle.std.proofs.Common.{map, take}
use Rattle.backup_format.specs.PiecePlaces.{piece_in}
use Rattle.backup_restoring.specs.Restores.{payload_pages}
use Rattle.backup_restoring.specs.Inner.Layout.{entry_at, HoldsPayload}
use Rattle.backup_restoring.specs.Inner.Writing.{Lays}
use Rattle.backup_restoring.proofs.versions.write_payloads.Given as goal

-- the first of them lie in their pages
abbrev pub invariant-loop-piece : goal.invariant-loop-piece
invariant-loop-piece g l =
    Lays payload_pages entry_at HoldsPayload l.first (map (piece_in l.whole) (take l.piece-index l.pieces)) l.next l.entries l.fn.file.slots l.file.slots (g.D.Disk.moment l.fn.file.disk) (g.D.Disk.moment l.file.disk)
