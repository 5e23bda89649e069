use Rattle.std.proofs.Common.{◌≡◌, true, take}
use Rattle.std.specs.List.{list_all}
use Rattle.backup_format.specs.Table.{is_its_payload, rows_of}
use Rattle.backup_format.specs.PiecePlaces.{pieces_in}
use Rattle.backup_format.proofs.overlaps.fit_together.Given as goal

abbrev pub invariant-loop-piece : goal.invariant-loop-piece
invariant-loop-piece l = list_all (is_its_payload l.schema (rows_of l.schema (pieces_in l.whole l.pieces))) (take l.piece-index (pieces_in l.whole l.pieces)) ≡ true
