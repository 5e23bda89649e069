use Rattle.std.proofs.Common.{◌≡◌, ◌-◌, []}
use Rattle.file_items.specs.Items.{repeat}
use Rattle.cell_values.specs.Schemas.{attribute_names}
use Rattle.file_items.specs.Table.{dimension_at, with_last}
use Rattle.file_items.proofs.Growing.{grows}
use Rattle.file_items.proofs.schemas.dimensions.dimensions_from.Given as goal

abbrev pub invariant-loop-index : goal.invariant-loop-index
invariant-loop-index l = grows (dimension_at (attribute_names l.attributes)) (l.count - l.index) l.dimensions l.rest ≡ repeat (dimension_at (attribute_names l.attributes)) with_last l.count [] l.bytes
