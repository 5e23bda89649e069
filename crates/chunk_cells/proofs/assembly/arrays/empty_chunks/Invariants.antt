use Rattle.std.proofs.Common.{◌≡◌, take}
use Rattle.std.specs.List.{AllByRecursion}
use Rattle.array_geom.specs.Link.{numbers}
use Rattle.chunk_cells.specs.Frames.{HasNoCells}
use Rattle.chunk_cells.specs.Inner.Numbers.{numbers_in}
use Rattle.chunk_cells.proofs.assembly.arrays.empty_chunks.Given as goal

abbrev pub invariant-loop-number : goal.invariant-loop-number
invariant-loop-number l = record {
  same : numbers l.chunks ≡ numbers_in (take l.number-index l.listed);
  empty : AllByRecursion HasNoCells l.chunks;
}
