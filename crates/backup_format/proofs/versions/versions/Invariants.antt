use Rattle.std.proofs.Common.{◌≡◌, ◌-◌, map}
use Rattle.file_items.specs.Items.{repeat}
use Rattle.file_items.proofs.Loop.{behind}
use Rattle.backup_format.specs.Table.{next_version, last_in}
use Rattle.backup_format.specs.PiecePlaces.{version_in, EndsWith}
use Rattle.backup_format.proofs.versions.versions.Given as goal

abbrev pub invariant-loop-index : goal.invariant-loop-index
invariant-loop-index l = record {
  read : behind (map (version_in l.whole) l.versions) (repeat (next_version l.schema l.next) last_in (l.count - l._index) l.last l.rest) ≡ repeat (next_version l.schema l.next) last_in l.count 0 l.bytes;
  end : EndsWith l.whole l.rest;
}
