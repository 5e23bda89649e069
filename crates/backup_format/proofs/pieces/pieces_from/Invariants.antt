use Rattle.std.proofs.Common.{◌≡◌, ◌-◌, length, map, None}
use Rattle.std.specs.Option.{option_map}
use Rattle.file_items.specs.Items.{repeat}
use Rattle.file_items.proofs.Loop.{behind}
use Rattle.backup_format.specs.Table.{chunk_of_piece, next_piece, number_in}
use Rattle.backup_format.specs.PiecePlaces.{pieces_in, AreLeft, EndsWith}
use Rattle.backup_format.proofs.pieces.pieces_from.Given as goal

abbrev pub invariant-loop-index : goal.invariant-loop-index
invariant-loop-index l = record {
  read : behind (pieces_in l.whole l.pieces) (repeat (next_piece l.schema) number_in (l.count - l._index) (option_map (λ at. at.items) l.last) l.rest) ≡ repeat (next_piece l.schema) number_in l.count None l.bytes;
  end : EndsWith l.whole l.rest;
  chunks : l.chunks ≡ map (chunk_of_piece l.schema) (pieces_in l.whole l.pieces);
  left : AreLeft l.whole l.pieces (length l.rest);
}
