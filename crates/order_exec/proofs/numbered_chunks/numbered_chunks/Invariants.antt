use Rattle.std.proofs.Common.{IsTrue, length, map}
use Rattle.std.specs.List.{AllByRecursion}
use Rattle.area_cells.specs.Found.{found_cell}
use Rattle.order_exec.specs.Inner.Keyed.{AreIndexed, IsKeyAlone, keyed_cell}
use Rattle.order_exec.specs.declared.number_keys.Keyed.{Keyed}
use Rattle.order_exec.proofs.NumberedChunkLaws.{ChunksSoFar}
use Rattle.order_exec.proofs.numbered_chunks.numbered_chunks.Given as goal

abbrev pub invariant-cutting : goal.invariant-cutting
invariant-cutting l = record {
  so_far : ChunksSoFar Keyed l.target.dimensions l.target l.margins.items (keyed_cell (map found_cell l.found)) l.keyed l.rest l.number l.chunks;
  indexed : AreIndexed (length l.found) l.rest;
  alone : IsTrue l.alone → AllByRecursion (IsKeyAlone (map found_cell l.found)) l.rest;
}

abbrev pub decreases-cutting : goal.decreases-cutting
decreases-cutting l = length l.rest
