use Rattle.std.proofs.Common.{◌≡◌, ◌-◌, None}
use Rattle.file_items.specs.Items.{repeat}
use Rattle.file_items.proofs.Loop.{behind}
use Rattle.version_catalog.specs.Table.{next_array, name_in, last_name}
use Rattle.version_catalog.proofs.catalogs.reading.arrays.Given as goal

abbrev pub invariant-loop-index : goal.invariant-loop-index
invariant-loop-index l = behind l.arrays (repeat next_array name_in (l.count - l._index) (last_name l.arrays) l.rest) ≡ repeat next_array name_in l.count None l.bytes
