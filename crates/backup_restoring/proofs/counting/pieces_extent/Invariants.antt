use Rattle.std.proofs.Common.{◌≡◌, map, take}
use Rattle.std.specs.Prelude.{sum_by}
use Rattle.backup_format.specs.PiecePlaces.{piece_in}
use Rattle.backup_restoring.specs.Restores.{payload_pages, entry_length}
use Rattle.backup_restoring.proofs.counting.pieces_extent.Given as goal

abbrev pub invariant-loop-piece : goal.invariant-loop-piece
invariant-loop-piece l = record {
  pages : l.extent.pages ≡ sum_by payload_pages (map (piece_in l.whole) (take l.piece-index l.pieces));
  bytes : l.extent.bytes ≡ sum_by entry_length (map (piece_in l.whole) (take l.piece-index l.pieces));
}
