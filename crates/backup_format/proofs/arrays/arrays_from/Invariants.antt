use Rattle.std.proofs.Common.{◌≡◌, ◌-◌, None}
use Rattle.file_items.specs.Items.{repeat}
use Rattle.file_items.proofs.Loop.{behind}
use Rattle.backup_format.specs.Table.{next_array, name_in}
use Rattle.backup_format.specs.PiecePlaces.{arrays_in, last_name, EndsWith}
use Rattle.backup_format.proofs.arrays.arrays_from.Given as goal

abbrev pub invariant-loop-index : goal.invariant-loop-index
invariant-loop-index l = record {
  read : behind (arrays_in l.whole l.arrays) (repeat next_array name_in (l.count - l._index) (last_name l.arrays) l.rest) ≡ repeat next_array name_in l.count None l.bytes;
  end : EndsWith l.whole l.rest;
}
