use Rattle.std.proofs.Common.{◌≡◌, ◌-◌, []}
use Rattle.file_items.specs.Items.{repeat}
use Rattle.file_items.specs.Table.{next_attribute, with_last}
use Rattle.file_items.proofs.Growing.{grows}
use Rattle.file_items.proofs.schemas.attributes.attributes_from.Given as goal

abbrev pub invariant-loop-index : goal.invariant-loop-index
invariant-loop-index l = grows next_attribute (l.count - l._index) l.attributes l.rest ≡ repeat next_attribute with_last l.count [] l.bytes
