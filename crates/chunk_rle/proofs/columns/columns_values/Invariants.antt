use Rattle.std.proofs.Common.{◌≡◌, ◌-◌, length, drop, List}
use Rattle.file_items.specs.Items.{repeat}
use Rattle.file_items.proofs.Loop.{behind}
use Rattle.chunk_rle.specs.declared.runs.Column.{Column}
use Rattle.chunk_rle.specs.Chunks.{all_values}
use Rattle.chunk_rle.specs.Table.{next_column_at, others}
use Rattle.chunk_rle.proofs.columns.columns_values.Given as goal

abbrev pub invariant-loop-attribute : goal.invariant-loop-attribute
invariant-loop-attribute l = (read : List Column) × (l.columns.items ≡ all_values read)
    × (behind read (repeat (next_column_at l.n) others (length l.attributes - l.attribute-index) (drop l.attribute-index l.attributes) l.rest) ≡ repeat (next_column_at l.n) others (length l.attributes) l.attributes l.bytes)
