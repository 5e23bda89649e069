use Rattle.std.proofs.Common.{◌≡◌, ◌-◌, length}
use Rattle.std.specs.Option.{option_copied}
use Rattle.file_items.specs.Items.{repeat}
use Rattle.file_items.proofs.Loop.{behind}
use Rattle.backup_format.specs.Table.{placed_number, next_placing, numbers_at}
use Rattle.backup_format.proofs.numbers.numbers.Given as goal

abbrev pub invariant-loop-index : goal.invariant-loop-index
invariant-loop-index l = record {
  read : behind l.at.items (repeat placed_number next_placing (length l.dims - l.index) (record { before = option_copied l.left; dims = l.sides }) l.rest) ≡ numbers_at l.dims (option_copied l.before) l.bytes;
  count : length l.at.items ≡ l.index;
}
