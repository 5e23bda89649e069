use Rattle.std.proofs.Common.{◌≡◌, take}
use Rattle.std.specs.List.{AllByRecursion}
use Rattle.array_geom.specs.Link.{IsPart, numbers}
use Rattle.chunk_cells.specs.Inner.Numbers.{numbers_in}
use Rattle.logical_plan.specs.Meaning.{built_rows}
use Rattle.exec_cellwise.proofs.build.chunks.chunks.chunks_at.Given as goal

abbrev pub invariant-loop-number : goal.invariant-loop-number
invariant-loop-number l = record {
  same : numbers l.chunks ≡ numbers_in (take l.number-index l.listed);
  parts : AllByRecursion (IsPart l.schema.dimensions l.margins.items (built_rows l.schema l.value)) l.chunks;
}
