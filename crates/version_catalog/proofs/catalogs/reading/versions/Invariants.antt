use Rattle.std.proofs.Common.{◌≡◌, ◌-◌, length}
use Rattle.file_items.specs.Items.{repeat}
use Rattle.file_items.proofs.Loop.{behind}
use Rattle.version_catalog.specs.Spelling.{versions_at}
use Rattle.version_catalog.specs.Table.{next_version, number_in}
use Rattle.version_catalog.proofs.catalogs.reading.versions.Given as goal

abbrev pub invariant-loop-index : goal.invariant-loop-index
invariant-loop-index l = record {
  read : behind (versions_at l.numbers l.directories) (repeat (next_version l.next) number_in (l.count - l._index) l.last l.rest) ≡ repeat (next_version l.next) number_in l.count 0 l.bytes;
  one_each : length l.directories ≡ length l.numbers;
}
