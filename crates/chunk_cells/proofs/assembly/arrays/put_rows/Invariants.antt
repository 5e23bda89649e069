use Rattle.std.proofs.Common.{◌≡◌, take}
use Rattle.std.specs.List.{AllByRecursion}
use Rattle.array_geom.specs.Link.{IsPart, numbers}
use Rattle.chunk_cells.specs.Inner.Numbers.{numbers_in}
use Rattle.chunk_cells.proofs.assembly.arrays.put_rows.Given as goal

abbrev pub invariant-loop-row : goal.invariant-loop-row
invariant-loop-row l = record {
  same : numbers l.chunks.items ≡ numbers_in l.listed;
  parts : AllByRecursion (IsPart l.schema.dimensions l.margins.items (take l.row-index l.rows)) l.chunks.items;
}
