use Rattle.std.proofs.Common.{◌-◌, ◌≤◌, length, drop}
use Rattle.area_cells.specs.declared.finding.Found.{Found}
use Rattle.order_exec.proofs.NumberedChunkLaws.{ChunksSoFar}
use Rattle.shape_exec.specs.Inner.Unpacked.{unpacked_found}
use Rattle.shape_exec.proofs.numbered_cells.numbered_chunks.Given as goal

abbrev pub invariant-cutting : goal.invariant-cutting
invariant-cutting l = record {
  within : l.from ≤ length l.found;
  so_far : ChunksSoFar Found l.target.dimensions l.target l.margins.items (unpacked_found l.grid) l.found (drop l.from l.found) l.number l.chunks;
}

abbrev pub decreases-cutting : goal.decreases-cutting
decreases-cutting l = length l.found - l.from
