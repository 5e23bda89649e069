use Rattle.std.proofs.Common.{◌≡◌, ◌-◌, ◌≤◌, List, map}
use Rattle.file_items.specs.Items.{repeat}
use Rattle.file_items.proofs.Loop.{behind}
use Rattle.array_geom.specs.Attribute.{Attribute}
use Rattle.array_geom.specs.Datum.TheVariants.{Int}
use Rattle.array_geom.specs.Kind.TheVariants.{Int64}
use Rattle.chunk_rle.specs.declared.runs.Run.{Run}
use Rattle.chunk_rle.specs.Inner.Valued.{as_value}
use Rattle.chunk_rle.specs.Longest.{values_of}
use Rattle.chunk_rle.specs.Table.{with_values, no_values, run_at}
use Rattle.chunk_rle.proofs.columns.numbers_from.Given as goal

abbrev pub invariant-loop-index : goal.invariant-loop-index
invariant-loop-index l = record {
  read : (attribute : Attribute) → attribute.kind ≡ Int64 → (runs : List Run) × (map Int l.numbers ≡ values_of runs)
      × (behind runs (repeat (run_at attribute l.n) with_values (l.count - l.index) (record { total = l.total; last = as_value l.before }) l.rest) ≡ repeat (run_at attribute l.n) with_values l.count no_values l.bytes);
  total : l.total ≤ l.n;
}
